-- One more number is wrapped (`changed`).
use Rattle.std.proofs.Common.{rules}
use Rattle.statement.specs.Frames.{bits, low}
use Rattle.statement.proofs.Copies.{changed}
use Rattle.statement.proofs.number.narrow.Goals as goal

pub loop-v-preserved : goal.loop-v-preserved
loop-v-preserved c =
    let l = c.loop-v in
    let a = c.args in
    rw (c.wrapped.ensures, l.invariant) (changed (low (bits a.w)) a.val.now l.v-index (search rules))
