-- No component before i is a `^`.
use mathlib.Core.Path.{◌∙◌}
use Rattle.name_object.specs.Component.{component_limit}
use Rattle.name_object.specs.Memory.{path_of_name}
use Rattle.name_object.proofs.Paths.{path-fine}
use Rattle.path.proofs.Walks.{length-path}
use Rattle.path.proofs.Flags.{plain-stop, plain_turn, plain_end}
use native.Mathlib.Omega.{arith}
use Rattle.path.proofs.inner.Path.is_normal.Goals as goal

pub component-requires : goal.component-requires
component-requires c = omega (arith, (path-fine component_limit c.args.self.now.name.now c.args.self.now.ok).1)

pub returns-then-component-eq-PREFIX_CHAR : goal.returns-then-component-eq-PREFIX_CHAR
returns-then-component-eq-PREFIX_CHAR c =
    plain-stop c.args.self.now.name.now c.loop-i.i (omega arith) (rw c.component.ensures at c.if-component-eq-PREFIX_CHAR.true) ∙ c.loop-i.invariant

pub loop-i-preserved : goal.loop-i-preserved
loop-i-preserved c =
    plain_turn c.args.self.now.name.now c.loop-i.i (omega arith) (rw c.component.ensures at c.if-component-eq-PREFIX_CHAR.false) ∙ c.loop-i.invariant

pub returns : goal.returns
returns c =
    let name = c.args.self.now.name.now in
    plain_end (path_of_name name) c.loop-i.i (omega (arith, length-path name)) ∙ c.loop-i.invariant
