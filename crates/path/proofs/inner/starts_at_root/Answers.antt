-- The first byte tells a root from all else.
use Rattle.path.proofs.Flags.{rooted-is}
use Rattle.path.proofs.inner.starts_at_root.Goals as goal

pub returns : goal.returns
returns c = rooted-is c.args.name.now
