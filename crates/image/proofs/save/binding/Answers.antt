-- Two fields in a row.
use borrow.Author.Rules.{rules}
use mathlib.Core.Path.{refl, ap, ◌∙◌}
use Prim.Native.Nat.{ℕ, ◌+◌, ◌/◌, ◌%◌, ◌^◌}
use mathlib.Core.List.{[], ◌∷◌}
use Rattle.image.specs.Bits.{field, bits}
use Rattle.image.specs.Image.{bytes_of_segment, binding_fields}
use Rattle.image.specs.Inside.{ink}
use Rattle.image.proofs.Written.{one_field, more-field}
use Rattle.image.proofs.save.binding.Goals as goal

pub returns : goal.returns
unfolding binding_fields
returns c =
    let a = c.args in
    let o = a.out.now in
    let s = a.word / 2 ^ 32 in
    let e₁ = one_field o c.put.new.out a.at 32 (bytes_of_segment s)
    (c.put.ensures ∙ ap (λ (v : ℕ). ink o a.at (bits 32 v)) (c.chars-chars.ensures.0 ∙ ap bytes_of_segment c.segment.ensures)) in
    more-field o c.put.new.out c.put-2.new.out a.at (a.at + 32) 10 (a.word % 2 ^ 32) (field 32 (bytes_of_segment s) ∷ []) e₁ (search rules) refl
    (c.put-2.ensures ∙ ap (λ (v : ℕ). ink c.put.new.out (a.at + 32) (bits 10 v)) (c.from.ensures ∙ c.handle.ensures))
