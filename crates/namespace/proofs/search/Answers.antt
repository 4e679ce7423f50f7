-- 24, then 26 of the path and of the scope, and then by the kind of path.
use mathlib.Core.Path.{ap, ◌∙◌}
use Rattle.name_object.specs.Component.{component_limit}
use Rattle.name_object.specs.Memory.{told}
use Rattle.pkg_length.proofs.Answers.{residual_as}
use Rattle.table.specs.Limits.{limits}
use Rattle.table.proofs.Objects.{means-formed, means-unformed}
use Rattle.namespace.specs.Search.{found_hit, search_call}
use Rattle.namespace.proofs.Calls.{formed-at}
use Rattle.namespace.proofs.search.Goals as goal

pub returns-in_err-table : goal.returns-in_err-table
unfolding search_call
returns-in_err-table c =
    residual_as found_hit c.from_residual.result c.in_err-table.field-0.0 c.from_residual.ensures
    ∙ rw (c.in_err-table.ensures.0, means-unformed limits c.args.table.now c.in_err-table.ensures.1)

pub returns-in_err-path : goal.returns-in_err-path
unfolding search_call
returns-in_err-path c =
    residual_as found_hit c.from_residual-in_err-path.result c.in_err-path.field-0.0 c.from_residual-in_err-path.ensures
    ∙ rw (means-formed limits c.args.table.now (formed-at limits c.in_ok-table.table.words.now c.args.table.now c.in_ok-table.ensures c.in_ok-table.table.formed), ← c.in_err-path.ensures)

pub returns-in_err-of : goal.returns-in_err-of
unfolding search_call
returns-in_err-of c =
    residual_as found_hit c.from_residual-in_err-of.result c.in_err-of.field-0.0 c.from_residual-in_err-of.ensures
    ∙ rw (means-formed limits c.args.table.now (formed-at limits c.in_ok-table.table.words.now c.args.table.now c.in_ok-table.ensures c.in_ok-table.table.formed), ← c.in_ok-path.ensures, ← c.in_err-of.ensures)

pub returns-in_err-scope : goal.returns-in_err-scope
unfolding search_call
returns-in_err-scope c =
    residual_as found_hit c.from_residual-in_err-scope.result c.in_err-scope.field-0.0 c.from_residual-in_err-scope.ensures
    ∙ rw (means-formed limits c.args.table.now (formed-at limits c.in_ok-table.table.words.now c.args.table.now c.in_ok-table.ensures c.in_ok-table.table.formed), ← c.in_ok-path.ensures, ← c.in_ok-of.ensures, ← c.in_err-scope.ensures)

pub returns-in-Some : goal.returns-in-Some
unfolding search_call
returns-in-Some c =
    rw c.in_ok-table.ensures at c.search_up.ensures ∙ ap (told component_limit) (rw (means-formed limits c.args.table.now (formed-at limits c.in_ok-table.table.words.now c.args.table.now c.in_ok-table.ensures c.in_ok-table.table.formed), ← c.in_ok-path.ensures, ← c.in_ok-of.ensures, ← c.in_ok-scope.ensures, c.in-Some.ensures))

pub returns-in-None : goal.returns-in-None
unfolding search_call
returns-in-None c =
    rw c.in_ok-table.ensures at c.search_once.ensures ∙ ap (told component_limit) (rw (means-formed limits c.args.table.now (formed-at limits c.in_ok-table.table.words.now c.args.table.now c.in_ok-table.ensures c.in_ok-table.table.formed), ← c.in_ok-path.ensures, ← c.in_ok-of.ensures, ← c.in_ok-scope.ensures, c.in-None.ensures))
