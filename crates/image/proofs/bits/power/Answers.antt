-- A power below 2 ^ 64 is not cut off.
use Prim.Native.Nat.{◌^◌}
use native.Mathlib.Nat.{one-mul, mod-eq_of_lt}
use lib.Pow.{pow-lt}
use Rattle.image.proofs.bits.power.Goals as goal

pub returns : goal.returns
returns c = rw (one-mul (2 ^ c.args.n)) (mod-eq_of_lt (pow-lt c.requires))
