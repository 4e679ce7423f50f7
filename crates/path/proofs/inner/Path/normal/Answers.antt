-- A walk from nothing, and how it ends.
use mathlib.Core.Path.{sym, ◌∙◌}
use mathlib.Core.List.{[]}
use Rattle.name_object.specs.Component.{component_limit}
use Rattle.name_object.specs.Memory.{path_of_name}
use Rattle.name_object.proofs.Paths.{path-fine}
use Rattle.pkg_length.proofs.Answers.{residual}
use Rattle.path.specs.Normal.{upright}
use Rattle.path.proofs.Basics.{answers-as}
use Rattle.path.proofs.Shown.{made-none, made-path, made-over}
use Rattle.path.proofs.Walks.{normal-by, length-upright}
use Rattle.path.proofs.Climbs.{shows-none}
use Rattle.path.proofs.inner.Path.normal.Goals as goal

pub returns-in_err-made : goal.returns-in_err-made
returns-in_err-made c =
    let name = c.args.self.now.name.now in
    let s = shows-none component_limit _ (made-none component_limit _ c.empty-made.ensures) in
    let w = c.in_err-made.ensures.is [] s (path-fine component_limit name c.args.self.now.ok).0 in
    answers-as component_limit (normal-by component_limit (path_of_name name) w) (residual _ _ c.from_residual.ensures)

pub returns-in_err-fits : goal.returns-in_err-fits
returns-in_err-fits c =
    let name = c.args.self.now.name.now in
    let s = shows-none component_limit _ (made-none component_limit _ c.empty-made.ensures) in
    let w = c.in_ok-made.ensures.is [] s (path-fine component_limit name c.args.self.now.ok).0 in
    answers-as component_limit (normal-by component_limit (path_of_name name) w.1)
    (residual _ _ c.from_residual-in_err-fits.ensures ∙ made-over component_limit (upright w.0) _ _ (w.2.height ∙ sym (length-upright w.0)) c.in_err-fits.ensures)

pub returns : goal.returns
returns c =
    let name = c.args.self.now.name.now in
    let s = shows-none component_limit _ (made-none component_limit _ c.empty-made.ensures) in
    let w = c.in_ok-made.ensures.is [] s (path-fine component_limit name c.args.self.now.ok).0 in
    answers-as component_limit (normal-by component_limit (path_of_name name) w.1)
    (made-path component_limit (upright w.0) _ _ w.2.memory (w.2.height ∙ sym (length-upright w.0)) c.in_ok-fits.ensures)
