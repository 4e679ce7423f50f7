-- Resolved, and looked up there only.
use mathlib.Core.Path.{refl, ap, sym, ◌∙◌}
use Rattle.name_object.specs.Component.{component_limit}
use Rattle.name_object.specs.Memory.{told, path_of_name}
use Rattle.pkg_length.proofs.Answers.{residual_as}
use Rattle.name_object.proofs.Paths.{name-whole}
use Rattle.path.specs.Normal.{resolved}
use Rattle.table.specs.Limits.{limits}
use Rattle.table.specs.Memory.{decode}
use Rattle.table.specs.Edits.{look_up_answer}
use Rattle.namespace.specs.Search.{found_hit}
use Rattle.namespace.proofs.SearchCalls.{same-told, once-path, once-refused, once-found}
use Rattle.namespace.proofs.lent.Table.search_once.Goals as goal

pub returns-in_err-path : goal.returns-in_err-path
returns-in_err-path c =
    residual_as found_hit c.from_residual.result c.in_err-path.field-0.0 c.from_residual.ensures
    ∙ ap (told component_limit) (sym (once-path limits (decode limits c.args.self.now.words.now) (path_of_name c.args.path.now.name.now) (path_of_name c.args.scope.now.name) _ _
    (sym (c.in_err-path.ensures ∙ ap (resolved component_limit (path_of_name c.args.path.now.name.now)) c.as_path.ensures))))

pub returns-in_err-handle : goal.returns-in_err-handle
returns-in_err-handle c =
    residual_as found_hit c.from_residual-in_err-handle.result c.in_err-handle.field-0.0 c.from_residual-in_err-handle.ensures
    ∙ ap (told component_limit) (sym (once-refused limits (decode limits c.args.self.now.words.now) (path_of_name c.args.path.now.name.now) (path_of_name c.args.scope.now.name) (path_of_name c.in_ok-path.path.name) _ _
    (sym (c.in_ok-path.ensures ∙ ap (resolved component_limit (path_of_name c.args.path.now.name.now)) c.as_path.ensures))
    (c.in_err-handle.ensures ∙ ap (look_up_answer (decode limits c.args.self.now.words.now)) c.of.ensures)))

pub returns : goal.returns
returns c =
    let p = c.in_ok-path.path in
    same-told (sym (name-whole component_limit p.name p.sized p.settled.path)) refl
    ∙ ap (told component_limit) (sym (once-found limits (decode limits c.args.self.now.words.now) (path_of_name c.args.path.now.name.now) (path_of_name c.args.scope.now.name) (path_of_name p.name) c.in_ok-handle.handle.0
    (sym (c.in_ok-path.ensures ∙ ap (resolved component_limit (path_of_name c.args.path.now.name.now)) c.as_path.ensures))
    (c.in_ok-handle.ensures ∙ ap (look_up_answer (decode limits c.args.self.now.words.now)) c.of.ensures)))
