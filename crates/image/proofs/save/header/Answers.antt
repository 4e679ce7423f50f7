-- Four fields in a row.
use borrow.Author.Rules.{rules}
use mathlib.Core.Path.{refl}
use mathlib.Core.List.{[], ◌∷◌}
use Rattle.image.specs.Bits.{field}
use Rattle.image.specs.Inside.{counts_fields}
use Rattle.image.proofs.Written.{one_field, more-field}
use Rattle.image.proofs.save.header.Goals as goal

pub returns : goal.returns
unfolding counts_fields
returns c =
    let a = c.args in
    let o = a.out.now in
    let e₁ = one_field o c.put.new.out 0 4 1 c.put.ensures in
    let e₂ = more-field o
    c.put.new.out
    c.put-2.new.out 0 4 8 a.c.levels (field 4 1 ∷ []) e₁
    (search rules) refl c.put-2.ensures in
    let e₃ = more-field o c.put-2.new.out
    c.put-3.new.out 0 12 10 a.c.bindings (field 4 1 ∷ field 8 a.c.levels ∷ []) e₂
    (search rules) refl c.put-3.ensures in
    more-field o c.put-3.new.out c.put-4.new.out 0 22 10 a.c.objects
    (field 4 1 ∷ field 8 a.c.levels ∷ field 10 a.c.bindings ∷ []) e₃ (search rules) refl c.put-4.ensures
