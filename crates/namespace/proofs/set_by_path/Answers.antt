-- 24, what the path is refused with, the lookup, and then the object.
use mathlib.Core.Path.{ap, ◌∙◌}
use Rattle.pkg_length.proofs.Answers.{residual}
use Rattle.table.specs.Limits.{limits}
use Rattle.table.specs.Memory.{left}
use Rattle.table.proofs.Objects.{means-formed}
use Rattle.namespace.specs.Calls.{edit_left, set_by_path_call}
use Rattle.namespace.proofs.Calls.{unformed, formed-at, left-kept}
use Rattle.namespace.proofs.set_by_path.Goals as goal

pub returns-in_err-lent : goal.returns-in_err-lent
returns-in_err-lent c =
    ap (edit_left c.args.table.now) (residual c.from_residual.result c.in_err-lent.field-0.0 c.from_residual.ensures)
    ∙ left-kept limits c.args.table.now _ _ (set_by_path_call limits c.args.table.now c.args.path c.args.value) (unfold set_by_path_call in unformed limits c.args.table.now _ c.in_err-lent.field-0.0 c.in_err-lent.ensures)

pub returns-in_err-settled : goal.returns-in_err-settled
unfolding set_by_path_call
returns-in_err-settled c =
    ap (edit_left c.args.table.now) (residual c.from_residual-in_err-settled.result c.in_err-settled.field-0.0 c.from_residual-in_err-settled.ensures)
    ∙ left-kept limits c.args.table.now _ _ _ (rw (means-formed limits c.args.table.now (formed-at limits c.in_ok-lent.lent.words.now c.args.table.now c.in_ok-lent.ensures c.in_ok-lent.lent.formed), ← c.in_err-settled.ensures))

pub returns-in_err-bound : goal.returns-in_err-bound
unfolding set_by_path_call
returns-in_err-bound c =
    ap (edit_left c.args.table.now) (residual c.from_residual-in_err-bound.result c.in_err-bound.field-0.0 c.from_residual-in_err-bound.ensures)
    ∙ left-kept limits c.args.table.now _ _ _ (rw (means-formed limits c.args.table.now (formed-at limits c.in_ok-lent.lent.words.now c.args.table.now c.in_ok-lent.ensures c.in_ok-lent.lent.formed), ← c.in_ok-settled.ensures, ← rw c.in_ok-lent.ensures at c.in_err-bound.ensures))

pub returns : goal.returns
unfolding set_by_path_call
returns c =
    c.write.ensures ∙ ap (left limits c.args.table.now) (rw (means-formed limits c.args.table.now (formed-at limits c.in_ok-lent.lent.words.now c.args.table.now c.in_ok-lent.ensures c.in_ok-lent.lent.formed), ← c.in_ok-settled.ensures, ← rw c.in_ok-lent.ensures at c.in_ok-bound.ensures))
