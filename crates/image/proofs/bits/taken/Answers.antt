-- Shifts are quotients.
use native.Mathlib.Omega.{arith}
use lib.Pow.{pow_pos}
use Rattle.image.proofs.bits.taken.Goals as goal

pub nonzero_rem-result : goal.nonzero_rem-result
nonzero_rem-result c = omega (arith, c.power.ensures, pow_pos c.args.n)

pub returns : goal.returns
returns c = rw (c.from.ensures, c.power.ensures)
