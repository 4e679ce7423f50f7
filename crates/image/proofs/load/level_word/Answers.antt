-- The four fields are as low as a level's word takes them.
use native.Mathlib.Omega.{arith}
use Prim.Native.Nat.{◌+◌}
use Rattle.image.specs.Bits.{bits_in}
use Rattle.image.proofs.Fields.{number-at-low}
use Rattle.image.proofs.Checks.{segment-number-low}
use Rattle.image.proofs.load.level_word.Goals as goal

pub number-segment-requires : goal.number-segment-requires
number-segment-requires c = let a = c.args in rw c.field-chars.ensures (number-at-low (bits_in a.bytes.now) 32 (a.at + 6 + 3))

pub overflow_add-depth : goal.overflow_add-depth
overflow_add-depth c = let a = c.args in record { fits = omega (arith, c.field-depth.ensures, number-at-low (bits_in a.bytes.now) 6 a.at) }

pub packed_level-requires : goal.packed_level-requires
packed_level-requires c =
    let a = c.args in (
      omega (arith, c.field-depth.ensures, number-at-low (bits_in a.bytes.now) 6 a.at),
      rw c.field-typ.ensures (number-at-low (bits_in a.bytes.now) 3 (a.at + 6)),
      c.requires.2,
      omega (arith, c.number-segment.ensures, segment-number-low c.field-chars.result),
    )
