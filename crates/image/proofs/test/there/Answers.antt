-- Bits that end within the last byte are there.
use native.Mathlib.Omega.{arith}
use Prim.Native.Nat.{◌+◌}
use lib.ListN.{length}
use borrow.Author.Tests.{le-leb, lt-leb}
use Rattle.image.specs.Bits.{bits_in}
use Rattle.image.proofs.Fields.{length-bits_in}
use Rattle.image.proofs.test.there.Goals as goal

pub returns-then-bytes-at : goal.returns-then-bytes-at
returns-then-bytes-at c =
    let a = c.args in
    rw (lt-leb (a.at + a.width) (length (bits_in a.bytes.now)) (omega (arith, length-bits_in a.bytes.now)))

pub returns : goal.returns
returns c =
    let a = c.args in
    rw (le-leb (a.at + a.width) (length (bits_in a.bytes.now)) (omega (arith, length-bits_in a.bytes.now)))
