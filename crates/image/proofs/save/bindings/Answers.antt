-- The bindings so far stand behind what stood.
use borrow.Author.Rules.{rules}
use native.Mathlib.Omega.{arith}
use mathlib.Core.Path.{◌≡◌, ap, ◌∙◌}
use mathlib.Core.List.{[], ◌∷◌}
use Prim.Native.Nat.{ℕ}
use lib.ListN.{length}
use Rattle.table.specs.Layout.{binding_of}
use Rattle.image.specs.Format.{first_edition}
use Rattle.image.specs.Bits.{spelled}
use Rattle.image.specs.Image.{binding_fields}
use Rattle.image.specs.Inside.{ink}
use Rattle.image.proofs.Written.{put-none, put-more, put-all, length-bindings, bindings-row}
use Rattle.image.proofs.save.bindings.Goals as goal

width : (w : ℕ) → length (spelled (binding_fields first_edition (binding_of w ∷ []))) ≡ 42
width w = length-bindings first_edition (binding_of w ∷ [])

pub loop-word-init : goal.loop-word-init
loop-word-init c = put-none (λ w. spelled (binding_fields first_edition (binding_of w ∷ []))) 42 width _ _ _ c.requires.1.clean

pub overflow_add-at : goal.overflow_add-at
overflow_add-at c = record { fits = omega (arith, c.requires.1.low, c.loop-word.invariant.place) }

pub binding-requires : goal.binding-requires
binding-requires c =
    let l = c.loop-word in
    (omega (arith, c.requires.1.room, l.invariant.place, l.invariant.long), omega (arith, c.requires.1.low, l.invariant.place))

pub loop-word-preserved : goal.loop-word-preserved
loop-word-preserved c =
    let l = c.loop-word in
    put-more (λ w. spelled (binding_fields first_edition (binding_of w ∷ []))) 42 width l.invariant (search rules) (omega (arith, c.requires.1.room, l.invariant.place)) c.binding.ensures

pub returns : goal.returns
returns c =
    let a = c.args in
    put-all (λ w. spelled (binding_fields first_edition (binding_of w ∷ []))) 42 width c.loop-word.invariant (search rules) ∙ ap (ink a.out.now a.at) (bindings-row first_edition a.words.now)
