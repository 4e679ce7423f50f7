-- By where the last segment is: refused, bound, or free with a binding to spare or none.
use mathlib.Core.Path.{ap, ◌∙◌}
use Rattle.std.specs.Prelude.{Ok}
use Rattle.pkg_length.proofs.Answers.{residual_of}
use Rattle.table.specs.Limits.{limits}
use Rattle.table.proofs.Objects.{long}
use Rattle.namespace.specs.Inside.{RoomFor}
use Rattle.namespace.proofs.ValueCalls.{room-refused, room_bound, room-full}
use native.Mathlib.Omega.{arith}
use Rattle.namespace.proofs.lent.Table.find_room.Goals as goal

pub bounds-self-639 : goal.bounds-self-639
bounds-self-639 c = omega (arith, long limits (omega arith) c.args.self.now.words.now c.args.self.now.formed)

pub returns-in_err-find_spot : goal.returns-in_err-find_spot
returns-in_err-find_spot c =
    residual_of (RoomFor limits c.args.self.now.words.now c.args.path.now) c.from_residual.result c.in_err-find_spot.field-0.0 c.from_residual.ensures
    (room-refused limits (omega arith) c.args.self.now.words.now c.args.self.now.formed c.args.path.now c.find_spot.result (rw c.as_slice.ensures.is at c.find_spot.ensures) c.in_err-find_spot.field-0.0 c.in_err-find_spot.was)

pub returns-in-Bound : goal.returns-in-Bound
returns-in-Bound c =
    room_bound limits (omega arith) c.args.self.now.words.now c.args.self.now.formed c.args.path.now c.find_spot.result (rw c.as_slice.ensures.is at c.find_spot.ensures) _ (c.in_ok-find_spot.was ∙ ap Ok c.in-Bound.is)

pub returns-then-self-ne0 : goal.returns-then-self-ne0
returns-then-self-ne0 c =
    room-full limits (omega arith) c.args.self.now.words.now c.args.self.now.formed c.args.path.now c.find_spot.result (rw c.as_slice.ensures.is at c.find_spot.ensures) c.in-Free.place (c.in_ok-find_spot.was ∙ ap Ok c.in-Free.is)
    (omega arith) c.if-self-ne0.true
