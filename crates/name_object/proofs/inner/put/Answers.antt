-- The four bytes take the place of four.
use mathlib.Core.Path.{◌≡◌}
use lib.ListN.{length}
use Prim.Native.Nat.{◌*◌}
use Rattle.name_object.proofs.Memory.{put4-part}
use native.Mathlib.Omega.{arith}
use borrow.Author.Rules.{rules}
use Rattle.name_object.proofs.inner.put.Goals as goal

pub returns : goal.returns
returns c =
    let four : length c.args.four ≡ 4 = search rules in
    rw c.copy_from_slice.ensures.after (put4-part c.args.bytes.now c.args.four (4 * c.args.k) _ (omega arith) four (omega (arith, c.told-bytes)))
