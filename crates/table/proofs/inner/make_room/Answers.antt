-- What is passed, and then the carry before what is left, is the end; at a spare word the carry has its place.
use mathlib.Core.Path.{ap, sym, ◌∙◌}
use mathlib.Core.List.{List, ◌++◌}
use Prim.Native.Nat.{ℕ}
use lib.ListN.{take, length-set}
use Rattle.table.proofs.Facts.{tail_put}
use Rattle.table.proofs.Moves.{push-turn, push-stop, push-done}
use native.Mathlib.Omega.{arith}
use Rattle.table.proofs.inner.make_room.Goals as goal

pub returns-then-old-eq0 : goal.returns-then-old-eq0
returns-then-old-eq0 c =
    let l = c.loop-x in
    let a = c.args in
    tail_put a.at a.xs.now _
    ∙ ap (λ (x : List ℕ). take a.at a.xs.now ++ x) (push-stop l.x-index l.carried l.x-items (omega arith) c.if-old-eq0.true ∙ l.invariant.1)

pub loop-x-preserved : goal.loop-x-preserved
loop-x-preserved c =
    let l = c.loop-x in
    (simp length-set l.invariant.0, push-turn l.x-index l.carried l.x-items (omega arith) c.if-old-eq0.false ∙ l.invariant.1)

pub returns : goal.returns
returns c =
    let l = c.loop-x in
    let a = c.args in
    tail_put a.at a.xs.now _ ∙ ap (λ (x : List ℕ). take a.at a.xs.now ++ x) (sym (push-done l.x-index l.carried l.x-items (omega arith)) ∙ l.invariant.1)
