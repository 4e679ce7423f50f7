-- The levels whose bindings are left to be tested, with the place of each.
use borrow.Author.Rules.{rules}
use native.Mathlib.Omega.{arith}
use mathlib.Core.Path.{◌≡◌, ap, sym, ◌∙◌}
use mathlib.Core.Bool.{Bool, true, false}
use Prim.Native.Nat.{ℕ, ◌+◌, ◌*◌, ◌≤◌}
use Rattle.pkg_length.specs.Refusal.{gives, and_then}
use mathlib.Core.List.{List}
use Rattle.image.specs.Bits.{bits_in}
use Rattle.image.specs.Format.{first_edition}
use Rattle.pkg_length.proofs.Answers.{residual}
use Rattle.image.proofs.Checks.{refused-is, fine-arm, minus-none, bound-ended, bound-refused, own-low, bound-next}
use Rattle.image.specs.Reader.{first, count_at, own_checks, bound_checks}
use Rattle.image.proofs.test.bound.Goals as goal

-- what a level's test that passes shows
record Passed (bs : List Bool) (made : ℕ) (last : Bool) (at depth rest m : ℕ) : Type 0 where
  checked : first (own_checks first_edition bs made last at depth rest) ≡ gives tt
  is : m ≡ count_at bs at
  few : m ≤ rest

passed : (bs : List Bool) (made : ℕ) (last : Bool) (at depth rest m : ℕ)
    → gives m ≡ and_then (first (own_checks first_edition bs made last at depth rest)) (λ _. gives (count_at bs at)) → Passed bs made last at depth rest m
passed bs made last at depth rest m e =
    let x = fine-arm (first (own_checks first_edition bs made last at depth rest)) (count_at bs at) m e in
    record { checked = x.0; is = x.1; few = rw x.1 (own-low first_edition bs made last at depth rest x.0) }

pub loop-k-init : goal.loop-k-init
loop-k-init c =
    let a = c.args in record {
      left = ap (λ (j : ℕ). first (bound_checks first_edition (bits_in a.bytes.now) a.made j 32 (32 + a.n * 41) 0 a.total)) (minus-none a.n);
      few = search rules;
      place = search rules;
    }

pub returns-in_err-m : goal.returns-in_err-m
returns-in_err-m c =
    let a = c.args in
    let l = c.loop-k in
    let bs = bits_in a.bytes.now in
    residual _ _ c.from_residual.ensures
    ∙ bound-refused first_edition bs a.made a.n l.k (32 + l.k * 41) l.at l.depth l.rest (search rules)
    (refused-is (first (own_checks first_edition bs a.made false l.at l.depth l.rest)) (count_at bs l.at) c.in_err-m.ensures) ∙ l.invariant.left

pub overflow_sub-rest : goal.overflow_sub-rest
overflow_sub-rest c =
    let a = c.args in
    let l = c.loop-k in
    let x = passed (bits_in a.bytes.now) a.made false l.at l.depth l.rest c.in_ok-m.m c.in_ok-m.ensures in
    x.few

pub overflow_mul-at-in-loop-k : goal.overflow_mul-at-in-loop-k
overflow_mul-at-in-loop-k c =
    let a = c.args in
    let l = c.loop-k in
    let x = passed (bits_in a.bytes.now) a.made false l.at l.depth l.rest c.in_ok-m.m c.in_ok-m.ensures in
    record { fits = omega (arith, x.few, c.requires) }

pub overflow_add-at-in-loop-k : goal.overflow_add-at-in-loop-k
overflow_add-at-in-loop-k c =
    let a = c.args in
    let l = c.loop-k in
    let x = passed (bits_in a.bytes.now) a.made false l.at l.depth l.rest c.in_ok-m.m c.in_ok-m.ensures in
    record { fits = omega (arith, x.few, c.requires) }

pub overflow_add-at-in-loop-k-2 : goal.overflow_add-at-in-loop-k-2
overflow_add-at-in-loop-k-2 c =
    let a = c.args in
    let l = c.loop-k in
    let x = passed (bits_in a.bytes.now) a.made false l.at l.depth l.rest c.in_ok-m.m c.in_ok-m.ensures in
    record { fits = omega (arith, x.few, c.requires) }

pub loop-k-preserved : goal.loop-k-preserved
loop-k-preserved c =
    let a = c.args in
    let l = c.loop-k in
    let x = passed (bits_in a.bytes.now) a.made false l.at l.depth l.rest c.in_ok-m.m c.in_ok-m.ensures in record {
      left = bound-next first_edition (bits_in a.bytes.now) a.made a.n l.k (32 + l.k * 41) l.at l.depth l.rest (search rules) x.checked
          c.in_ok-m.m x.is c.field-depth.result c.field-depth.ensures (32 + (l.k + 1) * 41)
          (l.at + (10 + c.in_ok-m.m * 42)) (search rules) (search rules) ∙ l.invariant.left;
      few = search rules;
      place = omega (arith, x.few);
    }

pub returns-in_err-own : goal.returns-in_err-own
returns-in_err-own c =
    let a = c.args in
    let l = c.loop-k in
    let bs = bits_in a.bytes.now in
    let z : l.k ≡ a.n = search rules in
    residual _ _ c.from_residual-in_err-own.ensures
    ∙ sym (refused-is (first (own_checks first_edition bs a.made true l.at l.depth l.rest)) (count_at bs l.at) c.in_err-own.ensures)
    ∙ sym (bound-ended first_edition bs a.made a.n l.k (32 + l.k * 41) l.at l.depth l.rest z) ∙ l.invariant.left

pub returns : goal.returns
returns c =
    let a = c.args in
    let l = c.loop-k in
    let bs = bits_in a.bytes.now in
    let z : l.k ≡ a.n = search rules in
    let x = passed bs a.made true l.at l.depth l.rest c.in_ok-own.field-0 c.in_ok-own.ensures in
    sym x.checked ∙ sym (bound-ended first_edition bs a.made a.n l.k (32 + l.k * 41) l.at l.depth l.rest z) ∙ l.invariant.left
