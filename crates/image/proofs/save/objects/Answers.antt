-- The objects so far stand behind what stood.
use borrow.Author.Rules.{rules}
use native.Mathlib.Omega.{arith}
use mathlib.Core.Path.{◌≡◌, ap, ◌∙◌}
use Prim.Native.Nat.{ℕ}
use lib.ListN.{length}
use Rattle.image.specs.Bits.{bits}
use Rattle.image.specs.Inside.{ink}
use Rattle.image.proofs.Fields.{length-bits}
use Rattle.image.proofs.Written.{put-none, put-more, put-all, objects-row}
use Rattle.image.proofs.save.objects.Goals as goal

width : (w : ℕ) → length (bits 64 w) ≡ 64
width w = length-bits 64 w

pub loop-value-init : goal.loop-value-init
loop-value-init c = put-none (bits 64) 64 width _ _ _ c.requires.1.clean

pub overflow_add-at : goal.overflow_add-at
overflow_add-at c = record { fits = omega (arith, c.requires.1.low, c.loop-value.invariant.place) }

pub put-requires : goal.put-requires
put-requires c =
    let l = c.loop-value in
    (omega (arith, c.requires.1.room, l.invariant.place, l.invariant.long), search rules, search rules, omega (arith, c.requires.1.low, l.invariant.place))

pub loop-value-preserved : goal.loop-value-preserved
loop-value-preserved c =
    let l = c.loop-value in
    put-more (bits 64) 64 width l.invariant (search rules) (omega (arith, c.requires.1.room, l.invariant.place)) c.put.ensures

pub returns : goal.returns
returns c =
    let a = c.args in
    put-all (bits 64) 64 width c.loop-value.invariant (search rules) ∙ ap (ink a.out.now a.at) (objects-row a.values.now)
