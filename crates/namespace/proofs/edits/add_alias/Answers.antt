-- One law for each answer: no target, no room for the name, and the words with it.
use mathlib.Core.Path.{ap, ◌∙◌}
use Rattle.pkg_length.proofs.Answers.{residual_as}
use Rattle.table.specs.Limits.{limits}
use Rattle.namespace.specs.Calls.{edit_left}
use Rattle.namespace.proofs.ValueCalls.{aliased-aim, aliased-refused, aliased}
use native.Mathlib.Omega.{arith}
use Rattle.namespace.proofs.edits.add_alias.Goals as goal

pub returns-in_err-aim : goal.returns-in_err-aim
returns-in_err-aim c =
    ap (edit_left c.args.table.now) (residual_as (λ h. h.0) c.from_residual.result c.in_err-aim.field-0.0 c.from_residual.ensures)
    ∙ aliased-aim limits (omega arith) c.args.table.now c.requires c.args.path.now c.args.target.now c.in_err-aim.field-0.0 c.in_err-aim.ensures

pub returns-in_err-room : goal.returns-in_err-room
returns-in_err-room c =
    ap (edit_left c.args.table.now) (residual_as (λ h. h.0) c.from_residual-in_err-room.result c.in_err-room.field-0.0 c.from_residual-in_err-room.ensures)
    ∙ aliased-refused limits (omega arith) c.args.table.now c.requires c.args.path.now c.in_err-room.field-0.0 c.in_err-room.ensures c.args.target.now c.in_ok-aim.aim.0 c.in_ok-aim.ensures

pub returns : goal.returns
returns c =
    aliased limits (omega arith) c.args.table.now c.requires c.args.path.now c.in_ok-room.room c.in_ok-room.ensures
    (omega arith) c.in_ok-aim.aim.0 c.args.target.now c.in_ok-aim.ensures _ c.bind_at.ensures
