-- The arrays are the definition's.
use Rattle.std.proofs.Common.{refl}
use Rattle.statement.specs.Frames.{fresh}
use Rattle.statement.proofs.frame.Frame.new.Goals as goal

pub returns : goal.returns
unfolding fresh
returns c = refl
