-- Each byte counts once, modulo 256.
use borrow.Author.Rules.{rules}
use mathlib.Core.Path.{◌≡◌}
use Rattle.std.proofs.lemmas.Fn.{fold_over, slice_gives, fronts}
use Rattle.header.specs.Header.{sum_of}
use Rattle.header.proofs.Sums.{summed, summed-none}
use Rattle.header.proofs.sum.Goals as goal

pub returns : goal.returns
returns c =
    let e : c.fold.result ≡ sum_of c.iter.result.rest.now = fold_over fronts (λ y. y.now) _ (λ xs a. a ≡ sum_of xs) _
    (λ xs a x b f' e k. (summed xs a x.now b e (search rules), search rules)) c.iter.result c.iter.result.rest.now _ _
    (slice_gives c.iter.result) summed-none c.fold.ensures.ran in
    rw c.iter.ensures.rest at e
