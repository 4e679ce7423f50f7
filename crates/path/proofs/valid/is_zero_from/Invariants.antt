use mathlib.Core.Path.{◌≡◌}
use mathlib.Core.Bool.{◌&&◌}
use lib.ListN.{drop}
use Rattle.name_object.specs.Memory.{all_zero}
use Rattle.path.proofs.valid.is_zero_from.Given as goal

abbrev pub invariant-loop-byte : goal.invariant-loop-byte
invariant-loop-byte l = (l.clean && all_zero (drop l.byte-index l.byte-items)) ≡ all_zero l.byte-items
