-- The spare bits, then what follows.
use borrow.Author.Rules.{rules}
use mathlib.Core.Path.{sym, ◌∙◌}
use Prim.Native.Nat.{◌-◌, ◌*◌}
use borrow.Author.Tests.{eq-eqb, ne_eqb}
use Rattle.image.specs.Bits.{bits_in, number_at, bytes_for}
use Rattle.image.proofs.Fields.{length-bits_in}
use Rattle.image.proofs.Checks.{end-spare, end-left, end-fine}
use Rattle.image.proofs.test.end.Goals as goal

pub returns-then-field-ne0 : goal.returns-then-field-ne0
returns-then-field-ne0 c =
    let a = c.args in
    sym (end-spare (bits_in a.bytes.now) a.at (ne_eqb (number_at (bits_in a.bytes.now) (8 * bytes_for a.at - a.at) a.at) 0
    (λ z. c.if-field-ne0.true (c.field.ensures ∙ z))))

pub returns-then-used-bytes : goal.returns-then-used-bytes
returns-then-used-bytes c =
    let a = c.args in
    let l = length-bits_in a.bytes.now in
    sym (end-left (bits_in a.bytes.now) a.at (eq-eqb (number_at (bits_in a.bytes.now) (8 * bytes_for a.at - a.at) a.at) 0
    (sym c.field.ensures ∙ c.if-field-ne0.false)) (rw l (search rules)))

pub returns : goal.returns
returns c =
    let a = c.args in
    let l = length-bits_in a.bytes.now in
    sym (end-fine (bits_in a.bytes.now) a.at (eq-eqb (number_at (bits_in a.bytes.now) (8 * bytes_for a.at - a.at) a.at) 0
    (sym c.field.ensures ∙ c.if-field-ne0.false)) (rw l (search rules)))
