-- Each level that is found stands in the list; where one is not, no longer path leads on.
use mathlib.Core.Path.{◌≡◌, ap, subst}
use Prim.Native.Nat.{ℕ, ◌+◌, ◌-◌}
use lib.ListN.{length-set}
use Rattle.table.specs.declared.inner.Place.{Place}
use Rattle.table.proofs.Child.{Cursor, cursor-start, cursor-low, cursor-step, trail-gone, trail_more}
use native.Mathlib.Omega.{arith}
use Rattle.table.proofs.inner.trail.Goals as goal

pub loop-j-init : goal.loop-j-init
loop-j-init c =
    let a = c.args in
    (cursor-start a.levels.now a.scope.now, λ i h. absurd (omega arith), omega arith)

pub find_child-requires : goal.find_child-requires
find_child-requires c =
    let pre = c.requires in
    let a = c.args in
    let l = c.loop-j in
    (pre.0, l.invariant.0.within, cursor-low a.levels.now a.scope.now l.j (l.next.level - 1) l.next.level l.next.binding l.invariant.0, omega (arith, pre.1))

pub returns-in-Err : goal.returns-in-Err
returns-in-Err c =
    let a = c.args in
    let f = c.find_child in
    let l = c.loop-j in
    record {
      short = l.invariant.0.before;
      there = l.invariant.1;
      gone = trail-gone a.levels.now a.scope.now l.j (l.next.level - 1) l.next.level l.next.binding l.invariant.0 (omega arith) f.result f.ensures _ c.in-Err.is;
    }

pub behind-next-requires : goal.behind-next-requires
behind-next-requires c =
    let l = c.loop-j in
    let step = cursor-step c.args.levels.now c.args.scope.now l.j (l.next.level - 1) l.next l.invariant.0 (omega arith) _ c.find_child.ensures _ c.in-Ok.is in
    (step.reached.inside, c.requires.0, step.low)

pub loop-j-preserved : goal.loop-j-preserved
loop-j-preserved c =
    let l = c.loop-j in
    let a = c.args in
    let child = c.in-Ok.child in
    let step = cursor-step a.levels.now a.scope.now l.j (l.next.level - 1) l.next l.invariant.0 (omega arith) _ c.find_child.ensures _ c.in-Ok.is in
    let back : child.level ≡ c.behind-next.result.level - 1 = omega (arith, ap (λ (q : Place). q.level) c.behind-next.ensures) in (
      subst (λ (n : ℕ). Cursor a.levels.now a.scope.now (l.j + 1) n c.behind-next.result.level c.behind-next.result.binding) back (step.on _ c.behind-next.ensures),
      trail_more a.levels.now a.scope.now l.places l.j child (omega (arith, l.invariant.2, c.requires.1)) l.invariant.1 step.reached,
      simp length-set l.invariant.2,
    )
