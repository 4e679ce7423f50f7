use mathlib.Core.Path.{◌≡◌}
use Prim.Native.Nat.{◌+◌, ◌-◌, ◌*◌}
use Rattle.image.specs.Bits.{bits_in}
use Rattle.image.specs.Reader.{first, object_checks}
use Rattle.image.proofs.test.objects.Given as goal

abbrev pub invariant-loop-k : goal.invariant-loop-k
invariant-loop-k l = first (object_checks (bits_in l.bytes) (l.n - l.k) (l.at + l.k * 64)) ≡ first (object_checks (bits_in l.bytes) l.n l.at)
