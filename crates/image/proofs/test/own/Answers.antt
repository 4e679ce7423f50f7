-- The count, then the bindings.
use borrow.Author.Rules.{rules}
use mathlib.Core.Path.{◌≡◌, ap, sym, ◌∙◌}
use Prim.Native.Nat.{ℕ}
use Rattle.pkg_length.specs.Refusal.{Answer, gives, refuses, and_then}
use Rattle.image.specs.Bits.{bits_in}
use Rattle.image.specs.Format.{first_edition}
use Rattle.pkg_length.proofs.Answers.{residual}
use Rattle.image.proofs.Fields.{number-at-low}
use Rattle.image.proofs.Checks.{refused-is, fine-arm, own-count, own_on}
use Rattle.image.specs.Reader.{first, count_at, count_checks}
use Rattle.image.proofs.test.own.Goals as goal

refused-on : {A : Type 0} (v : A) {x y : Answer (Unit {0})} {n p : ℕ} → x ≡ y → y ≡ refuses n p → refuses n p ≡ and_then x (λ _. gives v)
refused-on v e f = rw (e, f)

fine-on : {A : Type 0} (v : A) {x y : Answer (Unit {0})} → x ≡ y → y ≡ gives tt → gives v ≡ and_then x (λ _. gives v)
fine-on v e f = rw (e, f)

pub returns-in_err-n : goal.returns-in_err-n
returns-in_err-n c =
    let a = c.args in
    let bs = bits_in a.bytes.now in
    residual _ _ c.from_residual.ensures
    ∙ own-count first_edition bs a.made a.last a.at a.depth a.rest (count_at bs a.at)
    (refused-is (first (count_checks first_edition bs a.last a.at a.depth a.rest)) (count_at bs a.at) c.in_err-n.ensures)

pub bindings-requires : goal.bindings-requires
bindings-requires c =
    let a = c.args in
    let bs = bits_in a.bytes.now in
    let x = fine-arm (first (count_checks first_edition bs a.last a.at a.depth a.rest)) (count_at bs a.at) c.in_ok-n.n c.in_ok-n.ensures in
    (search rules, rw x.1 (number-at-low bs 10 a.at))

pub returns-in_err-bindings : goal.returns-in_err-bindings
returns-in_err-bindings c =
    let a = c.args in
    let bs = bits_in a.bytes.now in
    let x = fine-arm (first (count_checks first_edition bs a.last a.at a.depth a.rest)) (count_at bs a.at) c.in_ok-n.n c.in_ok-n.ensures in
    residual _ _ c.from_residual-in_err-bindings.ensures
    ∙ refused-on (count_at bs a.at) (own_on first_edition bs a.made a.last a.at a.depth a.rest x.0) (sym (rw x.1 at c.in_err-bindings.ensures))

pub returns : goal.returns
returns c =
    let a = c.args in
    let bs = bits_in a.bytes.now in
    let x = fine-arm (first (count_checks first_edition bs a.last a.at a.depth a.rest)) (count_at bs a.at) c.in_ok-n.n c.in_ok-n.ensures in
    ap gives x.1
    ∙ fine-on (count_at bs a.at) (own_on first_edition bs a.made a.last a.at a.depth a.rest x.0) (sym (rw x.1 at c.in_ok-bindings.ensures))
