-- What stands is the text so far, and behind it what was lent.
use Rattle.name_object.specs.Component.{component_limit}
use Rattle.name_object.specs.Memory.{path_of_name}
use Rattle.name_object.proofs.Paths.{path-fine}
use Rattle.path.proofs.Writings.{written_none, written-turn, written-room, written_all, text-end, text-next, length-next, piece-length}
use Rattle.path.proofs.Walks.{length-path}
use native.Mathlib.Omega.{arith}
use Rattle.path.proofs.inner.Path.write_text.Goals as goal

pub loop-i-init : goal.loop-i-init
loop-i-init c = written_none _ _

pub component-requires : goal.component-requires
component-requires c = omega (arith, (path-fine component_limit c.args.self.now.name.now c.args.self.now.ok).1)

pub write_piece-at-requires : goal.write_piece-at-requires
write_piece-at-requires c =
    let l = c.loop-i in
    rw c.component.ensures (omega (arith, length-next c.args.self.now.name.now l.i (omega arith), written-room l.out c.args.out.now l.at _ _ l.invariant))

pub loop-i-preserved : goal.loop-i-preserved
loop-i-preserved c =
    let name = c.args.self.now.name.now in
    let l = c.loop-i in
    let e = rw c.component.ensures at c.write_piece-at.ensures in
    written-turn l.out c.write_piece-at.new.out c.args.out.now l.at c.write_piece-at.result _ _ _ _ _
    (omega arith) c.requires (piece-length _ _ _ _ _) (text-next name l.i (omega arith)) e.0 e.1 l.invariant

pub returns : goal.returns
returns c =
    let name = c.args.self.now.name.now in
    let l = c.loop-i in
    written_all l.out c.args.out.now l.at _ _ (text-end (path_of_name name) l.i (omega (arith, length-path name))) l.invariant
