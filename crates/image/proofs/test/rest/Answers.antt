-- The objects, then the end.
use borrow.Author.Rules.{rules}
use native.Mathlib.Omega.{arith}
use mathlib.Core.Path.{ap, sym, ◌∙◌}
use Prim.Native.Nat.{ℕ, ◌+◌, ◌*◌}
use Rattle.image.specs.Bits.{bits_in}
use Rattle.image.specs.Format.{first_edition, objects_place}
use Rattle.pkg_length.proofs.Answers.{residual}
use Rattle.image.proofs.Fields.{length-bits_in}
use Rattle.image.specs.Reader.{first, object_checks, end_checks}
use Rattle.image.proofs.Steps.{rest-refused, rest-on}
use Rattle.image.proofs.Rooms.{objects-room}
use Rattle.image.proofs.test.rest.Goals as goal

pub returns-in_err-objects : goal.returns-in_err-objects
returns-in_err-objects c =
    let a = c.args in
    residual _ _ c.from_residual.ensures
    ∙ rest-refused first_edition (bits_in a.bytes.now) a.c.levels a.c.bindings a.c.objects
    (sym (ap (λ (p : ℕ). first (object_checks (bits_in a.bytes.now) a.c.objects p)) c.objects_place-at.ensures) ∙ sym c.in_err-objects.ensures)

pub end-requires : goal.end-requires
end-requires c =
    let a = c.args in
    let g = sym (ap (λ (p : ℕ). first (object_checks (bits_in a.bytes.now) a.c.objects p)) c.objects_place-at.ensures) ∙ sym c.in_ok-objects.ensures in
    let r = objects-room (bits_in a.bytes.now) a.c.objects (objects_place first_edition a.c.levels a.c.bindings) g
    (rw (length-bits_in a.bytes.now) (search rules)) in
    let l = length-bits_in a.bytes.now in
    (search rules, omega (arith, r, l, c.objects_place-at.ensures))

pub returns : goal.returns
returns c =
    let a = c.args in
    let g = sym (ap (λ (p : ℕ). first (object_checks (bits_in a.bytes.now) a.c.objects p)) c.objects_place-at.ensures) ∙ sym c.in_ok-objects.ensures in
    c.end.ensures ∙ ap (λ (p : ℕ). first (end_checks (bits_in a.bytes.now) (p + a.c.objects * 64))) c.objects_place-at.ensures ∙ sym
    (rest-on first_edition (bits_in a.bytes.now) a.c.levels a.c.bindings a.c.objects g)
