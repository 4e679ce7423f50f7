-- The path in memory is settled.
use mathlib.Core.Path.{sym}
use borrow.Author.Rules.{rules}
use Rattle.name_object.specs.Component.{component_limit}
use Rattle.name_object.specs.Memory.{path_of_name}
use Rattle.path.specs.Normal.{resolved}
use Rattle.namespace.proofs.PathKeys.{against-keeps, found-given}
use Rattle.namespace.proofs.paths.Absolute.against.Goals as goal

pub invariant_of-result : goal.invariant_of-result
invariant_of-result c = record { sized = search rules; settled = (found-given component_limit (resolved component_limit (path_of_name c.args.path.now.name.now) (path_of_name c.args.scope.now.name.now)) (against-keeps component_limit c.args.path.now.name.now c.args.scope.now.name.now c.args.path.now.ok c.args.scope.now.ok) c.in_ok-name.name c.in_ok-name.ensures).0 }

pub returns : goal.returns
returns c = sym (found-given component_limit (resolved component_limit (path_of_name c.args.path.now.name.now) (path_of_name c.args.scope.now.name.now)) (against-keeps component_limit c.args.path.now.name.now c.args.scope.now.name.now c.args.path.now.ok c.args.scope.now.ok) c.in_ok-name.name c.in_ok-name.ensures).1
