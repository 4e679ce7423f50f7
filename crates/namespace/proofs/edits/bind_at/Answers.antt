-- Where there is room the path is long enough, its word fits, and its level counts one binding more.
use Rattle.table.specs.Limits.{limits}
use Rattle.table.proofs.Objects.{long}
use Rattle.namespace.proofs.ValueCalls.{spare-place, spare-word}
use native.Mathlib.Omega.{arith}
use Rattle.namespace.proofs.edits.bind_at.Goals as goal

pub bind-requires : goal.bind-requires
bind-requires c =
    let place = spare-place limits (omega arith) c.args.table.now c.requires.0 c.args.path.now c.args.place c.requires.1 in
    (long limits (omega arith) c.args.table.now c.requires.0, place.0, place.1, spare-word limits (omega arith) c.args.table.now c.requires.0 c.args.path.now c.args.place c.requires.1 (omega arith))
