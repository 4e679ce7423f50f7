use mathlib.Core.Path.{◌≡◌}
use Prim.Native.Nat.{◌+◌, ◌-◌, ◌*◌}
use Rattle.image.specs.Bits.{bits_in}
use Rattle.image.specs.Format.{first_edition}
use Rattle.image.specs.Reader.{first, bindings_checks}
use Rattle.image.proofs.test.bindings.Given as goal

abbrev pub invariant-loop-k : goal.invariant-loop-k
invariant-loop-k l =
    first (bindings_checks first_edition (bits_in l.bytes) l.made (l.n - l.k) (l.at + l.k * 42) l.lo) ≡ first (bindings_checks first_edition (bits_in l.bytes) l.made l.n l.at 0)
