-- The segment, then the handle.
use mathlib.Core.Path.{ap, ◌∙◌}
use Rattle.pkg_length.specs.Refusal.{gives}
use Rattle.image.specs.Bits.{bits_in, number_at}
use Rattle.image.specs.Format.{first_edition}
use Rattle.pkg_length.proofs.Answers.{residual}
use Rattle.image.proofs.Checks.{lack, has, refused-is, fine-arm, binding-refused, binding-short, binding-handle, binding-fine}
use Rattle.image.specs.Reader.{first, segment_number, segment_checks}
use Rattle.image.proofs.test.binding.Goals as goal

pub returns-in_err-s : goal.returns-in_err-s
returns-in_err-s c =
    let a = c.args in
    let bs = bits_in a.bytes.now in
    residual _ _ c.from_residual.ensures
    ∙ binding-refused first_edition bs a.made a.at a.lo (segment_number (number_at bs 32 a.at))
    (refused-is (first (segment_checks bs a.at a.lo)) (segment_number (number_at bs 32 a.at)) c.in_err-s.ensures)

pub returns-in_err-handle : goal.returns-in_err-handle
returns-in_err-handle c =
    let a = c.args in
    let bs = bits_in a.bytes.now in
    let x = fine-arm (first (segment_checks bs a.at a.lo)) (segment_number (number_at bs 32 a.at)) c.in_ok-s.s c.in_ok-s.ensures in
    residual _ _ c.from_residual-in_err-handle.ensures
    ∙ lack _ c.in_err-handle.ensures (binding-short first_edition bs a.made a.at a.lo (segment_number (number_at bs 32 a.at)) x.0)

pub returns-then-made-handle : goal.returns-then-made-handle
returns-then-made-handle c =
    let a = c.args in
    let bs = bits_in a.bytes.now in
    let x = fine-arm (first (segment_checks bs a.at a.lo)) (segment_number (number_at bs 32 a.at)) c.in_ok-s.s c.in_ok-s.ensures in
    let y = has _ _ c.in_ok-handle.ensures in
    binding-handle first_edition bs a.made a.at a.lo (segment_number (number_at bs 32 a.at)) x.0 y.0 (rw y.1 at c.if-made-handle.true)

pub returns : goal.returns
returns c =
    let a = c.args in
    let bs = bits_in a.bytes.now in
    let x = fine-arm (first (segment_checks bs a.at a.lo)) (segment_number (number_at bs 32 a.at)) c.in_ok-s.s c.in_ok-s.ensures in
    let y = has _ _ c.in_ok-handle.ensures in
    ap gives x.1
    ∙ binding-fine first_edition bs a.made a.at a.lo (segment_number (number_at bs 32 a.at)) x.0 y.0 (rw y.1 at c.if-made-handle.false)
