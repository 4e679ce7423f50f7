-- The number of the four characters.
use mathlib.Core.Path.{◌∙◌}
use Rattle.image.specs.Reader.{segment_number}
use Rattle.image.proofs.Characters.{number-of-bytes}
use Rattle.image.proofs.segments.number.Goals as goal

pub returns : goal.returns
returns c = unfold segment_number in c.number.ensures ∙ number-of-bytes c.args.v c.requires c.to_be_bytes.result c.to_be_bytes.ensures
