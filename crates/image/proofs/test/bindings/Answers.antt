-- The bindings that are left to be tested.
use borrow.Author.Rules.{rules}
use native.Mathlib.Omega.{arith}
use mathlib.Core.Path.{◌≡◌, ap, ap₂, sym, ◌∙◌}
use Prim.Native.Nat.{ℕ, ◌+◌, ◌-◌, ◌*◌}
use Rattle.image.specs.Bits.{bits_in, number_at}
use Rattle.image.specs.Format.{first_edition}
use Rattle.pkg_length.proofs.Answers.{residual}
use Rattle.image.proofs.Checks.{refused-is, fine-arm, minus-none, bindings-none, bindings-refused, bindings-next, segment-number-low}
use Rattle.image.specs.Reader.{first, segment_number, binding_checks, bindings_checks}
use Rattle.image.proofs.test.bindings.Goals as goal

plus_none : (p : ℕ) → p + 0 * 42 ≡ p
plus_none p = omega arith

next_place : (p k : ℕ) → p + (k + 1) * 42 ≡ p + k * 42 + 42
next_place p k = omega arith

pub loop-k-init : goal.loop-k-init
loop-k-init c =
    let a = c.args in
    ap₂ (λ (j p : ℕ). first (bindings_checks first_edition (bits_in a.bytes.now) a.made j p 0)) (minus-none a.n) (plus_none a.at)

pub returns-in_err-s : goal.returns-in_err-s
returns-in_err-s c =
    let a = c.args in
    let l = c.loop-k in
    let bs = bits_in a.bytes.now in
    residual _ _ c.from_residual.ensures
    ∙ bindings-refused first_edition bs a.made a.n l.k (a.at + l.k * 42) (a.at + (l.k + 1) * 42) l.lo
    (search rules) (refused-is (first (binding_checks first_edition bs a.made (a.at + l.k * 42) l.lo))
    (segment_number (number_at bs 32 (a.at + l.k * 42))) c.in_err-s.ensures) ∙ l.invariant

pub overflow_add-lo : goal.overflow_add-lo
overflow_add-lo c =
    let a = c.args in
    let l = c.loop-k in
    let bs = bits_in a.bytes.now in
    let x = fine-arm (first (binding_checks first_edition bs a.made (a.at + l.k * 42) l.lo))
    (segment_number (number_at bs 32 (a.at + l.k * 42))) c.in_ok-s.s c.in_ok-s.ensures in
    record { fits = omega (arith, x.1, segment-number-low (number_at bs 32 (a.at + l.k * 42))) }

pub loop-k-preserved : goal.loop-k-preserved
loop-k-preserved c =
    let a = c.args in
    let l = c.loop-k in
    let bs = bits_in a.bytes.now in
    let x = fine-arm (first (binding_checks first_edition bs a.made (a.at + l.k * 42) l.lo))
    (segment_number (number_at bs 32 (a.at + l.k * 42))) c.in_ok-s.s c.in_ok-s.ensures in
    bindings-next first_edition bs a.made a.n l.k (a.at + l.k * 42) (a.at + (l.k + 1) * 42) l.lo (search rules)
    x.0 (next_place a.at l.k) c.in_ok-s.s x.1 ∙ l.invariant

pub returns : goal.returns
returns c =
    let a = c.args in
    let l = c.loop-k in
    let bs = bits_in a.bytes.now in
    let z : a.n - l.k ≡ 0 = search rules in
    sym (bindings-none first_edition bs a.made (a.at + l.k * 42) l.lo) ∙ ap
    (λ (j : ℕ). first (bindings_checks first_edition bs a.made j (a.at + l.k * 42) l.lo)) (sym z) ∙ l.invariant
