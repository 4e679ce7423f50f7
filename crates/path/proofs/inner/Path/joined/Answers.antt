-- A walk over the scope, and then one over the path on what stands.
use mathlib.Core.Path.{sym, ◌∙◌}
use mathlib.Core.List.{[], ◌++◌}
use Rattle.name_object.specs.Component.{component_limit}
use Rattle.name_object.specs.Memory.{path_of_name}
use Rattle.name_object.proofs.Paths.{path-fine}
use Rattle.pkg_length.proofs.Answers.{residual}
use Rattle.path.specs.Normal.{upright}
use Rattle.path.specs.Inside.{fresh}
use Rattle.path.proofs.Basics.{answers-as}
use Rattle.path.proofs.Shown.{made-none, made-path, made-over}
use Rattle.path.proofs.Walks.{walk-on, walk_refused, normal-by, fine-any, fine-relative, length-upright}
use Rattle.path.proofs.Climbs.{shows-none}
use native.Mathlib.Omega.{arith}
use Rattle.path.proofs.inner.Path.joined.Goals as goal

pub walk-requires-2 : goal.walk-requires-2
walk-requires-2 c =
    let l = (path-fine component_limit c.args.scope.now.name.now c.args.scope.now.ok).1 in
    omega (arith, c.in_ok-start.ensures.low, l)

pub returns-in_err-start : goal.returns-in_err-start
returns-in_err-start c =
    let name = path_of_name c.args.self.now.name.now in
    let scope = c.args.scope.now.name.now in
    let k = c.in_err-start.ensures.is [] (shows-none component_limit _ (made-none component_limit _ c.empty-made.ensures)) (path-fine component_limit scope c.args.scope.now.ok).0 in
    answers-as component_limit (normal-by component_limit (path_of_name scope ++ name) (walk-on (path_of_name scope) name k (walk_refused name _ _)))
    (residual _ _ c.from_residual.ensures)

pub returns-in_err-made : goal.returns-in_err-made
returns-in_err-made c =
    let name = path_of_name c.args.self.now.name.now in
    let scope = c.args.scope.now.name.now in
    let k = c.in_ok-start.ensures.is [] (shows-none component_limit _ (made-none component_limit _ c.empty-made.ensures)) (path-fine component_limit scope c.args.scope.now.ok).0 in
    let f = fine-any (fresh k.0) name (fine-relative name c.requires (path-fine component_limit c.args.self.now.name.now c.args.self.now.ok).0) in
    let w = c.in_err-made.ensures.is k.0 k.2 f in
    answers-as component_limit (normal-by component_limit (path_of_name scope ++ name) (walk-on (path_of_name scope) name k.1 w))
    (residual _ _ c.from_residual-in_err-made.ensures)

pub returns-in_err-fits : goal.returns-in_err-fits
returns-in_err-fits c =
    let name = path_of_name c.args.self.now.name.now in
    let scope = c.args.scope.now.name.now in
    let k = c.in_ok-start.ensures.is [] (shows-none component_limit _ (made-none component_limit _ c.empty-made.ensures)) (path-fine component_limit scope c.args.scope.now.ok).0 in
    let f = fine-any (fresh k.0) name (fine-relative name c.requires (path-fine component_limit c.args.self.now.name.now c.args.self.now.ok).0) in
    let w = c.in_ok-made.ensures.is k.0 k.2 f in
    answers-as component_limit (normal-by component_limit (path_of_name scope ++ name) (walk-on (path_of_name scope) name k.1 w.1))
    (residual _ _ c.from_residual-in_err-fits.ensures ∙ made-over component_limit (upright w.0) _ _ (w.2.height ∙ sym (length-upright w.0)) c.in_err-fits.ensures)

pub returns : goal.returns
returns c =
    let name = path_of_name c.args.self.now.name.now in
    let scope = c.args.scope.now.name.now in
    let k = c.in_ok-start.ensures.is [] (shows-none component_limit _ (made-none component_limit _ c.empty-made.ensures)) (path-fine component_limit scope c.args.scope.now.ok).0 in
    let f = fine-any (fresh k.0) name (fine-relative name c.requires (path-fine component_limit c.args.self.now.name.now c.args.self.now.ok).0) in
    let w = c.in_ok-made.ensures.is k.0 k.2 f in
    answers-as component_limit (normal-by component_limit (path_of_name scope ++ name) (walk-on (path_of_name scope) name k.1 w.1))
    (made-path component_limit (upright w.0) _ _ w.2.memory (w.2.height ∙ sym (length-upright w.0)) c.in_ok-fits.ensures)
