-- A field of four characters has 32 bits.
use Rattle.image.specs.Bits.{bits_in}
use Rattle.image.proofs.Fields.{number-at-low}
use Rattle.image.proofs.Checks.{has}
use Rattle.image.proofs.test.segment.Goals as goal

pub chars_ok-requires : goal.chars_ok-requires
chars_ok-requires c = rw (has _ _ c.in_ok-chars.ensures).1 (number-at-low (bits_in c.args.bytes.now) 32 c.args.at)

pub number-s-requires : goal.number-s-requires
number-s-requires c = rw (has _ _ c.in_ok-chars.ensures).1 (number-at-low (bits_in c.args.bytes.now) 32 c.args.at)
