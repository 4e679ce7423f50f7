-- 24, then 26 of the path and of the scope, and then by the kind of path.
use mathlib.Core.Path.{◌≡◌, refl, ap, ◌∙◌}
use Prim.Native.Nat.{◌*◌}
use lib.ListN.{length}
use borrow.Author.Rules.{rules}
use Rattle.name_object.specs.Component.{component_limit}
use Rattle.name_object.specs.Memory.{told, path_of_name}
use Rattle.pkg_length.proofs.Answers.{residual_as}
use Rattle.table.specs.Limits.{limits}
use Rattle.table.proofs.Objects.{means-formed, means-unformed}
use Rattle.namespace.specs.Search.{found_level, level_call}
use Rattle.namespace.proofs.Calls.{formed-at}
use Rattle.namespace.proofs.PathKeys.{path-memory}
use Rattle.namespace.proofs.SearchCalls.{same-told}
use Rattle.namespace.proofs.search_for_level.Goals as goal

pub returns-in_err-table : goal.returns-in_err-table
unfolding level_call
returns-in_err-table c =
    residual_as found_level c.from_residual.result c.in_err-table.field-0.0 c.from_residual.ensures
    ∙ rw (c.in_err-table.ensures.0, means-unformed limits c.args.table.now c.in_err-table.ensures.1)

pub returns-in_err-path : goal.returns-in_err-path
unfolding level_call
returns-in_err-path c =
    residual_as found_level c.from_residual-in_err-path.result c.in_err-path.field-0.0 c.from_residual-in_err-path.ensures
    ∙ rw (means-formed limits c.args.table.now (formed-at limits c.in_ok-table.table.words.now c.args.table.now c.in_ok-table.ensures c.in_ok-table.table.formed), ← c.in_err-path.ensures)

pub returns-in_err-scope : goal.returns-in_err-scope
unfolding level_call
returns-in_err-scope c =
    residual_as found_level c.from_residual-in_err-scope.result c.in_err-scope.field-0.0 c.from_residual-in_err-scope.ensures
    ∙ rw (means-formed limits c.args.table.now (formed-at limits c.in_ok-table.table.words.now c.args.table.now c.in_ok-table.ensures c.in_ok-table.table.formed), ← c.in_ok-path.ensures, ← c.in_err-scope.ensures)

pub returns-in_err-settled-in-Some : goal.returns-in_err-settled-in-Some
unfolding level_call
returns-in_err-settled-in-Some c =
    residual_as found_level c.from_residual-in_err-settled-in-Some.result c.in_err-settled-in-Some.field-0.0 c.from_residual-in_err-settled-in-Some.ensures
    ∙ rw (means-formed limits c.args.table.now (formed-at limits c.in_ok-table.table.words.now c.args.table.now c.in_ok-table.ensures c.in_ok-table.table.formed), ← c.in_ok-path.ensures, ← c.in_ok-scope.ensures, c.in-Some.ensures, ← c.in_err-settled-in-Some.ensures)

pub returns-in_ok-settled-in-Some : goal.returns-in_ok-settled-in-Some
unfolding level_call
returns-in_ok-settled-in-Some c =
    rw c.in_ok-table.ensures at c.level_up.ensures ∙ ap (told component_limit) (rw (means-formed limits c.args.table.now (formed-at limits c.in_ok-table.table.words.now c.args.table.now c.in_ok-table.ensures c.in_ok-table.table.formed), ← c.in_ok-path.ensures, ← c.in_ok-scope.ensures, c.in-Some.ensures, ← c.in_ok-settled-in-Some.ensures))

pub returns-in-None : goal.returns-in-None
unfolding level_call
returns-in-None c =
    let len : length c.args.level_name.bytes ≡ 4 * component_limit = search rules in
    same-told (path-memory component_limit c.args.level_name (path_of_name c.in_ok-path.path.name.now) len c.in_ok-path.ensures) refl
    ∙ rw (means-formed limits c.args.table.now (formed-at limits c.in_ok-table.table.words.now c.args.table.now c.in_ok-table.ensures c.in_ok-table.table.formed), ← c.in_ok-path.ensures, ← c.in_ok-scope.ensures, c.in-None.ensures)
