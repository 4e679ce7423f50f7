-- One law for each answer: no room for the name, no object to spare, and the words with both.
use mathlib.Core.Path.{ap, ◌∙◌}
use lib.ListN.{length-set}
use Rattle.pkg_length.proofs.Answers.{residual_as}
use Rattle.table.specs.Limits.{limits}
use Rattle.table.proofs.Objects.{long}
use Rattle.namespace.specs.Calls.{edit_left}
use Rattle.namespace.proofs.ValueCalls.{valued-refused, valued-none, valued, bound-length}
use native.Mathlib.Omega.{arith}
use Rattle.namespace.proofs.edits.add_value.Goals as goal

pub bounds-table-640 : goal.bounds-table-640
bounds-table-640 c = omega (arith, long limits (omega arith) c.args.table.now c.requires)

pub returns-in_err-place : goal.returns-in_err-place
returns-in_err-place c =
    ap (edit_left c.args.table.now) (residual_as (λ h. h.0) c.from_residual.result c.in_err-place.field-0.0 c.from_residual.ensures)
    ∙ valued-refused limits (omega arith) c.args.table.now c.requires c.args.path.now c.in_err-place.field-0.0 c.in_err-place.ensures c.args.value

pub returns-then-made : goal.returns-then-made
returns-then-made c =
    valued-none limits (omega arith) c.args.table.now c.requires c.args.path.now c.in_ok-place.place c.in_ok-place.ensures (omega arith) c.args.value c.if-made.true

pub bounds-table-made : goal.bounds-table-made
bounds-table-made c =
    omega (arith, c.if-made.false, bound-length limits (omega arith) c.args.table.now c.requires _ _ _ _ c.bind_at.ensures)

pub bounds-table-640-2 : goal.bounds-table-640-2
bounds-table-640-2 c =
    let n = bound-length limits (omega arith) c.args.table.now c.requires _ _ _ _ c.bind_at.ensures in
    simp length-set (omega arith)

pub returns : goal.returns
returns c =
    valued limits (omega arith) c.args.table.now c.requires c.args.path.now c.in_ok-place.place c.in_ok-place.ensures (omega arith) c.args.value c.if-made.false _ c.bind_at.ensures
