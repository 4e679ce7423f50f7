use mathlib.Core.List.{[], ◌∷◌}
use Rattle.image.specs.Format.{first_edition}
use Rattle.image.specs.Bits.{spelled}
use Rattle.table.specs.Layout.{binding_of}
use Rattle.image.specs.Image.{binding_fields}
use Rattle.image.proofs.Written.{Put}
use Rattle.image.proofs.save.bindings.Given as goal

abbrev pub invariant-loop-word : goal.invariant-loop-word
invariant-loop-word l = Put (λ w. spelled (binding_fields first_edition (binding_of w ∷ []))) 42 l.initial.out l.fn.at l.words l.word-index l.out l.at
