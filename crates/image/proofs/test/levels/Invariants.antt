use mathlib.Core.Path.{◌≡◌}
use Prim.Native.Nat.{◌+◌, ◌-◌, ◌*◌, ◌≤◌}
use Rattle.image.specs.Bits.{bits_in}
use Rattle.image.specs.Format.{first_edition}
use Rattle.image.specs.Reader.{first, levels_checks, root_seen}
use Rattle.image.proofs.test.levels.Given as goal

abbrev pub invariant-loop-k : goal.invariant-loop-k
invariant-loop-k l =
    record {
      rest : first (levels_checks first_edition (bits_in l.bytes) (l.n - l.k) (32 + l.k * 41) l.before l.low) ≡ first (levels_checks first_edition (bits_in l.bytes) l.n 32 0 (root_seen first_edition));
      shallow : l.before ≤ 31;
    }
