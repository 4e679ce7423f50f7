-- The first keys lead to where the next is looked for; its child is there, or the path ends where it is not.
use mathlib.Core.Path.{refl, ◌∙◌}
use Rattle.table.specs.Inside.{counts}
use Rattle.table.proofs.Child.{cursor-start, cursor-low, cursor-step, placed-gone, cursor-end}
use native.Mathlib.Omega.{arith}
use Rattle.table.proofs.inner.seek.Goals as goal

pub loop-j-init : goal.loop-j-init
unfolding counts
loop-j-init c =
    let a = c.args in
    (cursor-start a.levels.now a.path.now, refl)

pub find_child-requires : goal.find_child-requires
find_child-requires c =
    let pre = c.requires in
    let a = c.args in
    let l = c.loop-j in
    (pre.0, l.invariant.0.within, cursor-low a.levels.now a.path.now l.j l.here.level l.next.level l.next.binding l.invariant.0, omega (arith, pre.1))

pub returns-in-Err : goal.returns-in-Err
returns-in-Err c =
    let a = c.args in
    let f = c.find_child in
    let l = c.loop-j in
    c.gone_at.ensures
    ∙ placed-gone a.levels.now a.path.now l.j l.here.level l.next.level l.next.binding l.invariant.0 (omega arith) f.result f.ensures c.in-Err.k c.in-Err.is

pub behind-next-requires : goal.behind-next-requires
behind-next-requires c =
    let l = c.loop-j in
    let step = cursor-step c.args.levels.now c.args.path.now l.j l.here.level l.next l.invariant.0 (omega arith) _ c.find_child.ensures _ c.in-Ok.is in
    (step.reached.inside, c.requires.0, step.low)

pub loop-j-preserved : goal.loop-j-preserved
loop-j-preserved c =
    let l = c.loop-j in
    let step = cursor-step c.args.levels.now c.args.path.now l.j l.here.level l.next l.invariant.0 (omega arith) _ c.find_child.ensures _ c.in-Ok.is in
    (step.on _ c.behind-next.ensures, step.reached.counted)

pub returns : goal.returns
returns c =
    let a = c.args in
    let l = c.loop-j in
    cursor-end a.levels.now a.path.now l.j l.here.level l.next.level l.next.binding l.here.binding l.invariant.0 (omega arith) l.invariant.1
