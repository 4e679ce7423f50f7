-- 11, and then the normal form.
use mathlib.Core.Path.{sym, ◌∙◌}
use borrow.Author.Rules.{rules}
use Rattle.name_object.specs.Component.{component_limit}
use Rattle.name_object.specs.Memory.{path_of_name}
use Rattle.pkg_length.proofs.Answers.{residual_as}
use Rattle.name_object.proofs.Paths.{path-fine}
use Rattle.path.specs.Normal.{normal}
use Rattle.path.proofs.Answers.{named-refused}
use Rattle.path.proofs.Laws.{normal-kept}
use Rattle.namespace.proofs.PathKeys.{settled-absolute, settled-relative, found-given}
use Rattle.namespace.proofs.paths.Absolute.settled.Goals as goal

pub returns-then-not-is_absolute : goal.returns-then-not-is_absolute
returns-then-not-is_absolute c = settled-relative component_limit (path_of_name c.args.path.now.name.now) (sym c.is_absolute.ensures ∙ c.if-not-is_absolute.true)

pub returns-in_err-name : goal.returns-in_err-name
returns-in_err-name c =
    residual_as (λ path. path_of_name path.name) c.from_residual.result c.in_err-name.field-0.0 c.from_residual.ensures
    ∙ named-refused component_limit (normal component_limit (path_of_name c.args.path.now.name.now)) _ _ c.in_err-name.ensures
    ∙ settled-absolute component_limit (path_of_name c.args.path.now.name.now) (sym c.is_absolute.ensures ∙ c.if-not-is_absolute.false)

pub invariant_of-result : goal.invariant_of-result
invariant_of-result c = record { sized = search rules; settled = (found-given component_limit (normal component_limit (path_of_name c.args.path.now.name.now)) (λ ns. normal-kept component_limit (path_of_name c.args.path.now.name.now) ns (path-fine component_limit c.args.path.now.name.now c.args.path.now.ok).0 (sym c.is_absolute.ensures ∙ c.if-not-is_absolute.false)) c.in_ok-name.name c.in_ok-name.ensures).0 }

pub returns : goal.returns
returns c =
    sym (found-given component_limit (normal component_limit (path_of_name c.args.path.now.name.now)) (λ ns. normal-kept component_limit (path_of_name c.args.path.now.name.now) ns (path-fine component_limit c.args.path.now.name.now c.args.path.now.ok).0 (sym c.is_absolute.ensures ∙ c.if-not-is_absolute.false)) c.in_ok-name.name c.in_ok-name.ensures).1
    ∙ settled-absolute component_limit (path_of_name c.args.path.now.name.now) (sym c.is_absolute.ensures ∙ c.if-not-is_absolute.false)
