-- Which of the three ways a path is resolved, by whether it and the scope start at the root.
use mathlib.Core.Path.{refl, sym, ◌∙◌}
use Rattle.name_object.specs.Component.{component_limit}
use Rattle.name_object.specs.Memory.{path_of_name}
use Rattle.path.proofs.Basics.{answers-as}
use Rattle.path.proofs.Walks.{res-relative, res-alone, res-joined}
use Rattle.path.proofs.inner.Path.resolved.Goals as goal

pub returns-then-not-is_absolute : goal.returns-then-not-is_absolute
returns-then-not-is_absolute c =
    let name = path_of_name c.args.self.now.name.now in
    let scope = path_of_name c.args.scope.now.name.now in
    answers-as component_limit (res-relative component_limit name scope (sym c.is_absolute.ensures ∙ c.if-not-is_absolute.true)) refl

pub returns-then-is_absolute : goal.returns-then-is_absolute
returns-then-is_absolute c =
    let name = path_of_name c.args.self.now.name.now in
    let scope = path_of_name c.args.scope.now.name.now in
    answers-as component_limit (res-alone component_limit name scope (sym c.is_absolute.ensures ∙ c.if-not-is_absolute.false) (sym c.is_absolute-2.ensures ∙ c.if-is_absolute.true)) c.normal.ensures

pub returns : goal.returns
returns c =
    let name = path_of_name c.args.self.now.name.now in
    let scope = path_of_name c.args.scope.now.name.now in
    answers-as component_limit (res-joined component_limit name scope (sym c.is_absolute.ensures ∙ c.if-not-is_absolute.false) (sym c.is_absolute-2.ensures ∙ c.if-is_absolute.false)) c.joined.ensures
