-- The byte that the bits stand in, with them in their place, is that of the bits before it and these.
use borrow.Author.Rules.{rules}
use native.Mathlib.Omega.{arith}
use mathlib.Core.Path.{◌≡◌, ap, ◌∙◌}
use Prim.Native.Nat.{ℕ, ◌+◌, ◌*◌, ◌/◌, ◌%◌}
use lib.ListN.{set}
use Rattle.image.specs.Bits.{bits}
use Rattle.image.specs.Inside.{ink}
use Rattle.image.proofs.Ink.{ink-part}
use Rattle.image.proofs.bits.put_part.Goals as goal

pub returns : goal.returns
returns c =
    let a = c.args in
    let e : 8 * (a.at / 8) + a.at % 8 ≡ a.at = omega arith in
    ap (set a.out.now (a.at / 8)) c.merged.ensures
    ∙ ink-part a.out.now (a.at / 8) (a.at % 8) a.n a.v (search rules) (search rules) (search rules)
    (λ j. omega (arith, c.slice_known-1.given j))
    ∙ ap (λ (k : ℕ). ink a.out.now k (bits a.n a.v)) e
