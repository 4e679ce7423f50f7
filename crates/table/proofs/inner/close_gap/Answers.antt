-- The words behind the gap, and zeros.
use Rattle.table.proofs.Moves.{gap-closed}
use Rattle.table.proofs.inner.close_gap.Goals as goal

pub returns : goal.returns
returns c = gap-closed c.args.xs.now c.args.at c.args.end c.requires.0 c.requires.1 _ _ c.copy_within.ensures.after (c.fill.ensures.after (λ y e. e))
