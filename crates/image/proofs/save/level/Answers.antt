-- Three fields in a row.
use borrow.Author.Rules.{rules}
use mathlib.Core.Path.{refl, ap, ◌∙◌}
use Prim.Native.Nat.{ℕ, ◌+◌, ◌-◌}
use mathlib.Core.List.{[], ◌∷◌}
use Rattle.image.specs.Bits.{field, bits}
use Rattle.table.specs.Layout.{rank_of, type_of, seg_of}
use Rattle.image.specs.Image.{bytes_of_segment}
use Rattle.image.specs.Inside.{ink, fields_of_word}
use Rattle.image.proofs.Written.{one_field, more-field}
use Rattle.image.proofs.save.level.Goals as goal

pub returns : goal.returns
unfolding fields_of_word
returns c =
    let a = c.args in
    let o = a.out.now in
    let r = rank_of a.word - 1 in
    let e₁ = one_field o c.put.new.out a.at 6 r (c.put.ensures ∙ ap (λ (v : ℕ). ink o a.at (bits 6 (v - 1))) c.rank.ensures) in
    let e₂ = more-field o c.put.new.out c.put-2.new.out a.at (a.at + 6) 3 (type_of a.word) (field 6 r ∷ []) e₁ (search rules) refl
    (c.put-2.ensures ∙ ap (λ (v : ℕ). ink c.put.new.out (a.at + 6) (bits 3 v)) c.typ.ensures) in
    more-field o c.put-2.new.out c.put-3.new.out a.at (a.at + 6 + 3) 32 (bytes_of_segment (seg_of a.word)) (field 6 r ∷ field 3 (type_of a.word) ∷ []) e₂
    (search rules) (search rules)
    (c.put-3.ensures ∙ ap (λ (v : ℕ). ink c.put-2.new.out (a.at + 6 + 3) (bits 32 v))
    (c.chars-chars.ensures.0 ∙ ap bytes_of_segment c.segment.ensures))
