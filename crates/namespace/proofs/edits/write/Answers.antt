-- One law for each answer.
use Rattle.table.specs.Limits.{limits}
use Rattle.table.proofs.Objects.{long, long-enough, set_found, set-none}
use native.Mathlib.Omega.{arith}
use Rattle.namespace.proofs.edits.write.Goals as goal

pub bounds-table-640 : goal.bounds-table-640
bounds-table-640 c = omega (arith, long limits (omega arith) c.args.table.now c.requires)

pub bounds-table-h : goal.bounds-table-h
bounds-table-h c =
    let ws = c.args.table.now in
    omega (arith, long limits (omega arith) ws c.requires, long-enough limits (omega arith) ws c.requires)

pub returns-then-h-made : goal.returns-then-h-made
returns-then-h-made c =
    set_found limits (omega arith) c.args.table.now c.requires c.args.handle.0 c.if-h-made.true c.args.value

pub returns-else-h-made : goal.returns-else-h-made
returns-else-h-made c =
    set-none limits (omega arith) c.args.table.now c.requires c.args.handle.0 c.if-h-made.false c.args.value
