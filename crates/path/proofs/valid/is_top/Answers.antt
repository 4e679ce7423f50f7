-- No component, or one whose first byte is the root's.
use Rattle.path.proofs.Flags.{top-is}
use Rattle.path.proofs.valid.is_top.Goals as goal

pub returns : goal.returns
returns c = top-is c.args.name.now
