-- What is behind the loop is the levels of the words, packed.
use mathlib.Core.Path.{◌≡◌, ap, sym, ◌∙◌}
use mathlib.Core.List.{map, ◌++◌}
use Prim.Native.Nat.{ℕ}
use native.Mathlib.Omega.{arith}
use lib.ListN.{length, drop, length-map, get_or-map}
use Rattle.namespace.specs.Listing.{word_record}
use Rattle.klem_c.specs.Levels.{packed_level}
use Rattle.klem_c.proofs.Copies.{filled-more, filled-all}
use Rattle.klem_c.proofs.levels.fill.Goals as goal

pub loop-i-preserved : goal.loop-i-preserved
loop-i-preserved c =
    let ws = c.args.words.now in
    let i = c.loop-i.i in
    let l : length (map word_record ws) ≡ length ws = length-map ws word_record in
    rw c.loop-i.invariant (filled-more packed_level (map word_record ws) c.args.list.now i (word_record 0) _ (omega arith) (omega arith) (c.packed.ensures ∙ ap packed_level (sym (get_or-map word_record ws i 0))))

pub returns : goal.returns
returns c =
    let ws = c.args.words.now in
    let l : length (map word_record ws) ≡ length ws = length-map ws word_record in
    c.loop-i.invariant ∙ filled-all packed_level (map word_record ws) c.args.list.now c.loop-i.i (omega arith)
    ∙ ap (λ (k : ℕ). map packed_level (map word_record ws) ++ drop k c.args.list.now) (let e : c.loop-i.i ≡ length ws = omega arith in e)
