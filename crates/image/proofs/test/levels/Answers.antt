-- The levels that are left to be tested.
use borrow.Author.Rules.{rules}
use native.Mathlib.Omega.{arith}
use mathlib.Core.Path.{◌≡◌, refl, ap, ap₂, sym, ◌∙◌}
use mathlib.Core.Bool.{Bool}
use mathlib.Core.List.{List}
use Prim.Native.Nat.{ℕ, ◌+◌, ◌-◌, ◌*◌, ◌≤◌, ◌<◌, ◌^◌}
use lib.ListN.{set, replicate}
use Rattle.pkg_length.specs.Refusal.{gives, and_then}
use Rattle.image.specs.Bits.{bits_in}
use Rattle.image.specs.Format.{first_edition}
use Rattle.pkg_length.proofs.Answers.{residual}
use Rattle.image.proofs.Checks.{refused-is, fine-arm, minus-none, levels-none, levels-refused, levels-next, level-deep, segment-number-low}
use Rattle.image.specs.declared.test.Seen.{Seen}
use Rattle.image.specs.Reader.{first, segment_number, depth_at, chars_at, level_checks, levels_checks, root_seen}
use Rattle.image.proofs.test.levels.Goals as goal

root-seen : set (replicate 33 0) 0 1 ≡ root_seen first_edition
root-seen = unfold root_seen in refl

next_place : (k : ℕ) → 32 + (k + 1) * 41 ≡ 32 + k * 41 + 41
next_place k = omega arith

-- what a level's test that passes shows
record Passed (bs : List Bool) (k before : ℕ) (low : List ℕ) (s : Seen) : Type 0 where
  checked : first (level_checks first_edition bs (32 + k * 41) before low) ≡ gives tt
  is : s ≡ record { depth = depth_at first_edition bs (32 + k * 41); segment = segment_number (chars_at first_edition bs (32 + k * 41)) }
  shallow : s.depth ≤ 31
  small : s.segment < 37 ^ 4

passed : (bs : List Bool) (k before : ℕ) (low : List ℕ) (s : Seen)
    → gives s ≡ and_then (first (level_checks first_edition bs (32 + k * 41) before low)) (λ _. gives (record { depth = depth_at first_edition bs (32 + k * 41); segment = segment_number (chars_at first_edition bs (32 + k * 41)) }))
    → Passed bs k before low s
passed bs k before low s e =
    let x = fine-arm (first (level_checks first_edition bs (32 + k * 41) before low)) (record { depth = depth_at first_edition bs (32 + k * 41); segment = segment_number (chars_at first_edition bs (32 + k * 41)) }) s e in
    let d = (level-deep first_edition bs (32 + k * 41) before low x.0).1 in
    record {
      checked = x.0;
      is = x.1;
      shallow = rw x.1 d;
      small = rw x.1 (segment-number-low (chars_at first_edition bs (32 + k * 41)));
    }

pub loop-k-init : goal.loop-k-init
loop-k-init c =
    let a = c.args in record {
      rest = ap₂ (λ (j : ℕ) (w : List ℕ). first (levels_checks first_edition (bits_in a.bytes.now) j 32 0 w)) (minus-none a.n) root-seen;
      shallow = search rules;
    }

pub level-requires : goal.level-requires
level-requires c = let l = c.loop-k in (search rules, omega (arith, l.invariant.shallow))

pub returns-in_err-l : goal.returns-in_err-l
returns-in_err-l c =
    let a = c.args in
    let l = c.loop-k in
    let bs = bits_in a.bytes.now in
    residual _ _ c.from_residual.ensures
    ∙ levels-refused first_edition bs a.n l.k (32 + l.k * 41) (32 + (l.k + 1) * 41) l.before l.low (search rules)
    (refused-is (first (level_checks first_edition bs (32 + l.k * 41) l.before l.low))
    (record { depth = depth_at first_edition bs (32 + l.k * 41); segment = segment_number (chars_at first_edition bs (32 + l.k * 41)) })
    c.in_err-l.ensures) ∙ l.invariant.rest

pub overflow_add-low : goal.overflow_add-low
overflow_add-low c =
    let a = c.args in
    let l = c.loop-k in
    let x = passed (bits_in a.bytes.now) l.k l.before l.low c.in_ok-l.l c.in_ok-l.ensures in
    record { fits = omega (arith, x.small) }

pub offset_bounds-low-before : goal.offset_bounds-low-before
offset_bounds-low-before c =
    let a = c.args in
    let l = c.loop-k in
    let x = passed (bits_in a.bytes.now) l.k l.before l.low c.in_ok-l.l c.in_ok-l.ensures in
    record { fits = omega (arith, x.shallow) }

pub bounds-low-before : goal.bounds-low-before
bounds-low-before c =
    let a = c.args in
    let l = c.loop-k in
    let x = passed (bits_in a.bytes.now) l.k l.before l.low c.in_ok-l.l c.in_ok-l.ensures in
    omega (arith, x.shallow)

pub overflow_add-low-in-loop-k : goal.overflow_add-low-in-loop-k
overflow_add-low-in-loop-k c =
    let a = c.args in
    let l = c.loop-k in
    let x = passed (bits_in a.bytes.now) l.k l.before l.low c.in_ok-l.l c.in_ok-l.ensures in
    record { fits = omega (arith, x.shallow) }

pub offset_bounds-low-before-in-loop-k : goal.offset_bounds-low-before-in-loop-k
offset_bounds-low-before-in-loop-k c =
    let a = c.args in
    let l = c.loop-k in
    let x = passed (bits_in a.bytes.now) l.k l.before l.low c.in_ok-l.l c.in_ok-l.ensures in
    record { fits = omega (arith, x.shallow) }

pub bounds-low-before-in-loop-k : goal.bounds-low-before-in-loop-k
bounds-low-before-in-loop-k c =
    let a = c.args in
    let l = c.loop-k in
    let x = passed (bits_in a.bytes.now) l.k l.before l.low c.in_ok-l.l c.in_ok-l.ensures in
    omega (arith, x.shallow)

pub loop-k-preserved : goal.loop-k-preserved
loop-k-preserved c =
    let a = c.args in
    let l = c.loop-k in
    let x = passed (bits_in a.bytes.now) l.k l.before l.low c.in_ok-l.l c.in_ok-l.ensures in record {
      rest = levels-next first_edition (bits_in a.bytes.now) a.n l.k (32 + l.k * 41) (32 + (l.k + 1) * 41) l.before l.low (search rules)
          x.checked (next_place l.k) c.in_ok-l.l x.is ∙ l.invariant.rest;
      shallow = x.shallow;
    }

pub returns : goal.returns
returns c =
    let a = c.args in
    let l = c.loop-k in
    let bs = bits_in a.bytes.now in
    let z : a.n - l.k ≡ 0 = search rules in
    sym (levels-none first_edition bs (32 + l.k * 41) l.before l.low) ∙ ap
    (λ (j : ℕ). first (levels_checks first_edition bs j (32 + l.k * 41) l.before l.low)) (sym z) ∙ l.invariant.rest
