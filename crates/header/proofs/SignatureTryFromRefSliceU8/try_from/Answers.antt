-- The letters are compared in the definition's order.
use mathlib.Core.Path.{sym, ◌∙◌}
use Rattle.header.proofs.Headers.{signed-dsdt, signed-ssdt, unsigned}
use Rattle.header.proofs.Parts.{same-pointwise}
use Rattle.header.proofs.SignatureTryFromRefSliceU8.try_from.Goals as goal

pub returns-then-eq : goal.returns-then-eq
returns-then-eq c =
    let e = rw c.as_slice.ensures at c.eq.ensures in
    signed-dsdt _ (sym (same-pointwise _ _) ∙ sym e ∙ c.if-eq.true)

pub returns-then-eq-2 : goal.returns-then-eq-2
returns-then-eq-2 c =
    let e = rw c.as_slice.ensures at c.eq.ensures in
    let f = rw c.as_slice-2.ensures at c.eq-2.ensures in
    signed-ssdt _ (sym (same-pointwise _ _) ∙ sym e ∙ c.if-eq.false) (sym (same-pointwise _ _) ∙ sym f ∙ c.if-eq-2.true)

pub returns : goal.returns
returns c =
    let e = rw c.as_slice.ensures at c.eq.ensures in
    let f = rw c.as_slice-2.ensures at c.eq-2.ensures in
    unsigned _ (sym (same-pointwise _ _) ∙ sym e ∙ c.if-eq.false) (sym (same-pointwise _ _) ∙ sym f ∙ c.if-eq-2.false)
