-- What was counted and what is left make the whole.
use mathlib.Core.Path.{ap}
use lib.ListN.{length}
use Rattle.name_object.specs.Component.{component_limit}
use Rattle.name_object.specs.Memory.{path_of_name}
use Rattle.name_object.proofs.Paths.{path-fine}
use Rattle.path.proofs.Writings.{text-bound, text-end, length-next}
use Rattle.path.proofs.Walks.{length-path}
use native.Mathlib.Omega.{arith}
use Rattle.path.proofs.inner.Path.text_length.Goals as goal

pub component-requires : goal.component-requires
component-requires c = omega (arith, (path-fine component_limit c.args.self.now.name.now c.args.self.now.ok).1)

pub overflow_add-n : goal.overflow_add-n
overflow_add-n c =
    let name = c.args.self.now.name.now in
    let fits = text-bound component_limit (path_of_name name) (omega (arith, length-path name, (path-fine component_limit name c.args.self.now.ok).1)) in
    omega (arith, rw c.component.ensures at c.piece_length-n.ensures, length-next name c.loop-i.i (omega arith), fits)

pub loop-i-preserved : goal.loop-i-preserved
loop-i-preserved c =
    let name = c.args.self.now.name.now in
    omega (arith, rw c.component.ensures at c.piece_length-n.ensures, length-next name c.loop-i.i (omega arith))

pub returns : goal.returns
returns c =
    let name = c.args.self.now.name.now in
    omega (arith, c.loop-i.invariant, ap length (text-end (path_of_name name) c.loop-i.i (omega (arith, length-path name))))
