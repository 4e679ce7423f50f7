use mathlib.Core.Path.{◌≡◌}
use Prim.Native.Nat.{◌-◌, ◌≤◌}
use Rattle.image.specs.Bits.{number_at, bits_in}
use Rattle.image.proofs.bits.field.Given as goal

abbrev pub invariant-loop-done : goal.invariant-loop-done
invariant-loop-done l = (l.v ≡ number_at (bits_in l.bytes) l.done l.at) × (l.done ≤ l.width)

abbrev pub decreases-loop-done : goal.decreases-loop-done
decreases-loop-done l = l.width - l.done
