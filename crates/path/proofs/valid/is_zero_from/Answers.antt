-- Whether the bytes passed were zero, and those to come are.
use mathlib.Core.Path.{refl, ◌∙◌, ap}
use Prim.Native.Nat.{◌-◌}
use lib.Seq.{take_all}
use lib.ListN.{drop, length-drop}
use Rattle.name_object.specs.Memory.{all_zero}
use Rattle.name_object.proofs.Zeros.{clean-turn, clean_end}
use native.Mathlib.Omega.{arith}
use Rattle.path.proofs.valid.is_zero_from.Goals as goal

pub loop-byte-preserved : goal.loop-byte-preserved
loop-byte-preserved c = let l = c.loop-byte in clean-turn _ l.byte-index l.clean _ (omega arith) refl ∙ l.invariant

pub returns : goal.returns
returns c =
    let l = c.loop-byte in
    let bytes = c.args.bytes.now in
    let from = c.args.from in
    clean_end _ l.byte-index l.clean (omega arith) ∙ l.invariant ∙ ap all_zero (take_all (128 - from) (drop from bytes) (omega (arith, c.told-bytes, length-drop from bytes)))
