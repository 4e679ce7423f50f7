-- Segment and handle are as low as a binding's word takes them.
use native.Mathlib.Omega.{arith}
use Prim.Native.Nat.{◌+◌}
use Rattle.image.specs.Bits.{bits_in}
use Rattle.image.proofs.Fields.{number-at-low}
use Rattle.image.proofs.Checks.{segment-number-low}
use Rattle.image.proofs.load.binding_word.Goals as goal

pub number-segment-requires : goal.number-segment-requires
number-segment-requires c = let a = c.args in rw c.field-chars.ensures (number-at-low (bits_in a.bytes.now) 32 a.at)

pub overflow_cast-handle : goal.overflow_cast-handle
overflow_cast-handle c =
    let a = c.args in record { fits = omega (arith, c.field-handle.ensures, number-at-low (bits_in a.bytes.now) 10 (a.at + 32)) }

pub packed_binding-requires : goal.packed_binding-requires
packed_binding-requires c = omega (arith, c.number-segment.ensures, segment-number-low c.field-chars.result)
