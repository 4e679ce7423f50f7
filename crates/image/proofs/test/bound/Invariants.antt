use mathlib.Core.Path.{◌≡◌}
use Prim.Native.Nat.{◌+◌, ◌-◌, ◌*◌, ◌≤◌}
use Rattle.image.specs.Bits.{bits_in}
use Rattle.image.specs.Format.{first_edition}
use Rattle.image.specs.Reader.{first, bound_checks}
use Rattle.image.proofs.test.bound.Given as goal

abbrev pub invariant-loop-k : goal.invariant-loop-k
invariant-loop-k l =
    record {
      left : first (bound_checks first_edition (bits_in l.bytes) l.made (l.n - l.k) (32 + l.k * 41) l.at l.depth l.rest) ≡ first (bound_checks first_edition (bits_in l.bytes) l.made l.n 32 (32 + l.n * 41) 0 l.total);
      few : l.rest ≤ l.total;
      place : l.at + l.rest * 42 ≡ 32 + l.n * 41 + l.k * 10 + l.total * 42;
    }
