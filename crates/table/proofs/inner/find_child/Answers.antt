-- What is left of the records tells what all of them do.
use mathlib.Core.Path.{◌≡◌, ap, ◌∙◌}
use Prim.Native.Nat.{ℕ, ◌+◌}
use lib.ListN.{length, drop}
use Rattle.std.specs.Prelude.{Err}
use Rattle.table.specs.Inside.{child_in}
use Rattle.table.proofs.Child.{child-out, child-past, child-stop, child-smaller, child-here, child-behind}
use native.Mathlib.Omega.{arith}
use Rattle.table.proofs.inner.find_child.Goals as goal
use Rattle.table.proofs.inner.find_child.Goals.{then-word-past+else-word-low+else-seg-here, else-word-past}

pub returns-then-word-low : goal.returns-then-word-low
returns-then-word-low c =
    let l = c.loop-level in
    let a = c.args in
    child-stop a.rank a.seg a.levels.now l.level l.binding (omega arith) (omega (arith, c.if-word-low.true)) ∙ l.invariant.1

pub returns-then-seg-here-2 : goal.returns-then-seg-here-2
returns-then-seg-here-2 c =
    let l = c.loop-level in
    let a = c.args in
    child-here a.rank a.seg a.levels.now l.level l.binding (omega arith) (omega (arith, c.if-word-low.false, c.if-word-past.true)) (omega (arith, c.if-seg-here-2.true)) ∙ l.invariant.1

pub returns-then-seg-here : goal.returns-then-seg-here
returns-then-seg-here c =
    let l = c.loop-level in
    let a = c.args in
    child-behind a.rank a.seg a.levels.now l.level l.binding (omega arith) (omega (arith, c.if-word-low.false, c.if-word-past.true)) (omega (arith, c.if-seg-here.true)) (λ e. c.if-seg-here-2.false (omega arith)) ∙ l.invariant.1

pub loop-level-preserved : goal.loop-level-preserved
loop-level-preserved c =
    let l = c.loop-level in
    let a = c.args in
    let counted = ap (λ (n : ℕ). child_in a.rank a.seg (drop (l.level + 1) a.levels.now) (l.level + 1) (l.binding + n)) c.count-binding.ensures in
    elim c.if-word-past.branch [
      | then-word-past+else-word-low+else-seg-here w ↦ (omega (arith, l.invariant.0), counted ∙ child-smaller a.rank a.seg a.levels.now l.level l.binding (omega arith) (omega (arith, w.if-word-past.true, w.if-word-low.false)) (omega (arith, w.if-seg-here.false)) ∙ l.invariant.1)
      | else-word-past w ↦ (omega (arith, l.invariant.0), counted ∙ child-past a.rank a.seg a.levels.now l.level l.binding (omega arith) (omega (arith, w.if-word-past.false)) ∙ l.invariant.1)
    ]

pub returns : goal.returns
returns c =
    let l = c.loop-level in
    let a = c.args in
    let e : length a.levels.now ≡ l.level = omega arith in
    ap Err e ∙ child-out a.rank a.seg a.levels.now l.level l.binding (omega arith) ∙ l.invariant.1
