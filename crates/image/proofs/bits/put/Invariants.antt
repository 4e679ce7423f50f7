use mathlib.Core.Path.{◌≡◌}
use Prim.Native.Nat.{◌+◌, ◌-◌, ◌≤◌, ◌<◌}
use lib.ListN.{length}
use Rattle.image.specs.Bits.{bits}
use Rattle.image.specs.Inside.{ink}
use Rattle.image.proofs.bits.put.Given as goal

abbrev pub invariant-loop-left : goal.invariant-loop-left
invariant-loop-left l =
    (ink l.out (l.at + (l.width - l.left)) (bits l.left l.v) ≡ ink l.initial.out l.at (bits l.width l.v)) × (0 < l.left) × (l.left ≤ l.width) × (length l.out ≡ length l.initial.out)

abbrev pub decreases-loop-left : goal.decreases-loop-left
decreases-loop-left l = l.left
