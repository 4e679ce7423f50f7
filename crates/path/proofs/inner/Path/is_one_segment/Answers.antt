-- A lone component is a segment where its first byte is neither mark.
use Rattle.path.proofs.Flags.{one-is}
use Rattle.path.proofs.inner.Path.is_one_segment.Goals as goal

pub returns : goal.returns
returns c = one-is c.args.self.now.name.now
