-- The run so far and what is left of it are the whole run; its bindings are counted on the way.
use mathlib.Core.Path.{◌≡◌, ap, ap₂, sym, ◌∙◌}
use Prim.Native.Nat.{ℕ, ◌+◌}
use lib.ListN.{length, take, drop}
use Rattle.table.specs.Inside.{counts, run, subtree_end}
use Rattle.table.proofs.Passes.{counts-turn, counts-low, run_on, run-ended, run_out}
use native.Mathlib.Omega.{arith}
use Rattle.table.proofs.inner.subtree_end.Goals as goal

pub overflow_add-binding : goal.overflow_add-binding
overflow_add-binding c = let a = c.args in omega (arith, c.requires.2, counts-low a.levels.now a.place.level, c.requires.1)

pub loop-level-init : goal.loop-level-init
unfolding subtree_end
loop-level-init c =
    let a = c.args in (
      omega arith,
      ap₂ ◌+◌ c.requires.2 c.count.ensures ∙ sym (counts-turn a.levels.now a.place.level c.requires.0),
      c.rank-rank.ensures,
      ap (λ (r : ℕ). a.place.level + 1 + run r (drop (a.place.level + 1) a.levels.now)) c.rank-rank.ensures,
    )

pub returns-then-rank : goal.returns-then-rank
returns-then-rank c =
    let l = c.loop-level in
    let a = c.args in
    let i = run-ended c.rank-rank.result a.levels.now l.level (omega arith) (omega (arith, c.if-rank.true)) ∙ l.invariant.3 in
    λ k. record { level = i k; binding = (l.invariant.1 ∙ ap (λ (n : ℕ). counts (take n a.levels.now)) i) k }

pub overflow_add-binding-in-loop-level : goal.overflow_add-binding-in-loop-level
overflow_add-binding-in-loop-level c =
    let l = c.loop-level in
    let a = c.args in
    omega (arith, l.invariant.1, counts-low a.levels.now l.level, c.requires.1)

pub loop-level-preserved : goal.loop-level-preserved
loop-level-preserved c =
    let l = c.loop-level in
    let a = c.args in (
      omega arith,
      ap₂ ◌+◌ l.invariant.1 c.count-binding.ensures ∙ sym (counts-turn a.levels.now l.level (omega arith)),
      l.invariant.2,
      run_on c.rank-rank.result a.levels.now l.level (omega arith) (omega (arith, c.if-rank.false)) ∙ l.invariant.3,
    )

pub returns : goal.returns
returns c =
    let l = c.loop-level in
    let a = c.args in
    let e : length a.levels.now ≡ l.level = omega arith in
    let i = e ∙ run_out c.rank-rank.result a.levels.now l.level (omega arith) ∙ l.invariant.3 in
    λ k. record { level = i k; binding = (l.invariant.1 ∙ ap (λ (n : ℕ). counts (take n a.levels.now)) (sym e ∙ i)) k }
