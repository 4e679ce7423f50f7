-- The header, then what follows.
use mathlib.Core.Path.{◌≡◌, ap, sym, ◌∙◌}
use Prim.Native.Nat.{ℕ}
use Rattle.pkg_length.specs.Refusal.{Answer, gives, refuses, and_then}
use Rattle.table.specs.Limits.{limits}
use Rattle.image.specs.Bits.{bits_in}
use Rattle.image.specs.Format.{first_edition}
use Rattle.pkg_length.proofs.Answers.{residual}
use Rattle.image.proofs.Fields.{length-bits_in}
use Rattle.image.proofs.Checks.{refused-is, fine-arm}
use Rattle.image.specs.Reader.{first, body_checks, header_checks, levels_in, bindings_in, objects_in}
use Rattle.image.proofs.Steps.{image-parts, header-holds}
use Rattle.image.specs.Calls.{counts_in}
use Rattle.image.proofs.test.image.Goals as goal

refused_all : {A : Type 0} {x : Answer (Unit {0})} (y z : Answer (Unit {0})) → x ≡ and_then y (λ _. z) → (v : A) {n p : ℕ} → refuses n p ≡ and_then y (λ _. gives v) → refuses n p ≡ and_then x (λ _. gives v)
refused_all y z e v h = let r = refused-is y v h in rw (e, r)

later-refused : {A : Type 0} (v : A) {x : Answer (Unit {0})} (y z : Answer (Unit {0})) {n p : ℕ} → x ≡ and_then y (λ _. z) → y ≡ gives tt → z ≡ refuses n p → refuses n p ≡ and_then x (λ _. gives v)
later-refused v y z e f g = rw (e, f, g)

later-fine : {A : Type 0} (v : A) {x : Answer (Unit {0})} (y z : Answer (Unit {0})) → x ≡ and_then y (λ _. z) → y ≡ gives tt → z ≡ gives tt → gives v ≡ and_then x (λ _. gives v)
later-fine v y z e f g = rw (e, f, g)

pub returns-in_err-c : goal.returns-in_err-c
returns-in_err-c c =
    let bs = bits_in c.args.bytes.now in
    residual _ _ c.from_residual.ensures
    ∙ refused_all (first (header_checks first_edition limits bs))
    (first (body_checks first_edition bs (levels_in bs) (bindings_in bs) (objects_in bs))) (image-parts first_edition limits bs)
    (counts_in c.args.bytes.now) c.in_err-c.ensures

pub body-requires : goal.body-requires
body-requires c =
    let bytes = c.args.bytes.now in
    let x = fine-arm (first (header_checks first_edition limits (bits_in bytes))) (counts_in bytes) c.in_ok-c.c c.in_ok-c.ensures in
    let h = header-holds first_edition limits (bits_in bytes) x.0 in
    rw x.1 (h.levels, h.bindings, h.objects, rw (length-bits_in bytes) at h.room)

pub returns-in_err-body : goal.returns-in_err-body
returns-in_err-body c =
    let bytes = c.args.bytes.now in
    let bs = bits_in bytes in
    let x = fine-arm (first (header_checks first_edition limits bs)) (counts_in bytes) c.in_ok-c.c c.in_ok-c.ensures in
    residual _ _ c.from_residual-in_err-body.ensures
    ∙ later-refused (counts_in bytes) (first (header_checks first_edition limits bs))
    (first (body_checks first_edition bs (levels_in bs) (bindings_in bs) (objects_in bs))) (image-parts first_edition limits bs) x.0
    (sym (rw x.1 at c.in_err-body.ensures))

pub returns : goal.returns
returns c =
    let bytes = c.args.bytes.now in
    let bs = bits_in bytes in
    let x = fine-arm (first (header_checks first_edition limits bs)) (counts_in bytes) c.in_ok-c.c c.in_ok-c.ensures in
    ap gives x.1
    ∙ later-fine (counts_in bytes) (first (header_checks first_edition limits bs))
    (first (body_checks first_edition bs (levels_in bs) (bindings_in bs) (objects_in bs))) (image-parts first_edition limits bs) x.0
    (sym (rw x.1 at c.in_ok-body.ensures))
