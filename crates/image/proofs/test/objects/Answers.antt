-- The objects that are left to be there.
use borrow.Author.Rules.{rules}
use native.Mathlib.Omega.{arith}
use mathlib.Core.Path.{◌≡◌, ap, ap₂, sym, ◌∙◌}
use Prim.Native.Nat.{ℕ, ◌+◌, ◌-◌, ◌*◌}
use Rattle.image.specs.Bits.{bits_in}
use Rattle.pkg_length.proofs.Answers.{residual}
use Rattle.image.proofs.Checks.{lack, has, one_left, minus-none, objects-none, objects-short, objects-step}
use Rattle.image.specs.Reader.{first, object_checks}
use Rattle.image.proofs.test.objects.Goals as goal

plus_none : (p : ℕ) → p + 0 * 64 ≡ p
plus_none p = omega arith

next_place : (p k : ℕ) → p + (k + 1) * 64 ≡ p + k * 64 + 64
next_place p k = omega arith

pub loop-k-init : goal.loop-k-init
loop-k-init c =
    let a = c.args in
    ap₂ (λ (j p : ℕ). first (object_checks (bits_in a.bytes.now) j p)) (minus-none a.n) (plus_none a.at)

pub returns-in_err-there : goal.returns-in_err-there
returns-in_err-there c =
    let a = c.args in
    let l = c.loop-k in
    residual _ _ c.from_residual.ensures
    ∙ lack _ c.in_err-there.ensures (λ e. sym (objects-short (bits_in a.bytes.now) (a.n - (l.k + 1)) (a.at + l.k * 64) e))
    ∙ ap (λ (j : ℕ). first (object_checks (bits_in a.bytes.now) j (a.at + l.k * 64))) (sym (one_left a.n l.k (search rules))) ∙ l.invariant

pub loop-k-preserved : goal.loop-k-preserved
loop-k-preserved c =
    let a = c.args in
    let l = c.loop-k in
    ap (λ (p : ℕ). first (object_checks (bits_in a.bytes.now) (a.n - (l.k + 1)) p)) (next_place a.at l.k) ∙ sym
    (objects-step (bits_in a.bytes.now) (a.n - (l.k + 1)) (a.at + l.k * 64) (has _ _ c.in_ok-there.ensures).0) ∙ ap
    (λ (j : ℕ). first (object_checks (bits_in a.bytes.now) j (a.at + l.k * 64))) (sym (one_left a.n l.k (search rules)))
    ∙ l.invariant

pub returns : goal.returns
returns c =
    let a = c.args in
    let l = c.loop-k in
    let z : a.n - l.k ≡ 0 = search rules in
    sym (objects-none (bits_in a.bytes.now) (a.at + l.k * 64)) ∙ ap
    (λ (j : ℕ). first (object_checks (bits_in a.bytes.now) j (a.at + l.k * 64))) (sym z) ∙ l.invariant
