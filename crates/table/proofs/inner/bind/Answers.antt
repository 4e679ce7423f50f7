-- The level counts the binding, and room is made for its word.
use Rattle.table.specs.Limits.{limits}
use Rattle.table.proofs.BindWords.{bind-moves}
use native.Mathlib.Omega.{arith}
use Rattle.table.proofs.inner.bind.Goals as goal

pub returns : goal.returns
returns c =
    let ws = c.args.table.now in
    bind-moves limits ws c.args.place.level c.args.place.binding c.args.word (omega arith) _ c.make_room.ensures
