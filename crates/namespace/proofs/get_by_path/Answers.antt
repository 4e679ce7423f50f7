-- 24, what the path is refused with, the lookup, and then the object.
use mathlib.Core.Path.{◌∙◌}
use Rattle.pkg_length.proofs.Answers.{residual}
use Rattle.table.specs.Limits.{limits}
use Rattle.table.proofs.Objects.{means-formed}
use Rattle.namespace.specs.Calls.{get_by_path_call}
use Rattle.namespace.proofs.Calls.{unformed, formed-at}
use Rattle.namespace.proofs.get_by_path.Goals as goal

pub returns-in_err-table : goal.returns-in_err-table
returns-in_err-table c =
    residual c.from_residual.result c.in_err-table.field-0.0 c.from_residual.ensures
    ∙ (unfold get_by_path_call in unformed limits c.args.table.now _ c.in_err-table.field-0.0 c.in_err-table.ensures)

pub returns-in_err-settled : goal.returns-in_err-settled
unfolding get_by_path_call
returns-in_err-settled c =
    residual c.from_residual-in_err-settled.result c.in_err-settled.field-0.0 c.from_residual-in_err-settled.ensures
    ∙ (rw (means-formed limits c.args.table.now (formed-at limits c.in_ok-table.table.words.now c.args.table.now c.in_ok-table.ensures c.in_ok-table.table.formed), ← c.in_err-settled.ensures))

pub returns-in_err-bound : goal.returns-in_err-bound
unfolding get_by_path_call
returns-in_err-bound c =
    residual c.from_residual-in_err-bound.result c.in_err-bound.field-0.0 c.from_residual-in_err-bound.ensures
    ∙ (rw (means-formed limits c.args.table.now (formed-at limits c.in_ok-table.table.words.now c.args.table.now c.in_ok-table.ensures c.in_ok-table.table.formed), ← c.in_ok-settled.ensures, ← rw c.in_ok-table.ensures at c.in_err-bound.ensures))

pub returns : goal.returns
unfolding get_by_path_call
returns c =
    rw c.in_ok-table.ensures at c.read.ensures ∙ rw (means-formed limits c.args.table.now (formed-at limits c.in_ok-table.table.words.now c.args.table.now c.in_ok-table.ensures c.in_ok-table.table.formed), ← c.in_ok-settled.ensures, ← rw c.in_ok-table.ensures at c.in_ok-bound.ensures)
