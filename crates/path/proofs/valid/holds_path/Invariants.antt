use mathlib.Core.Path.{◌≡◌}
use Prim.Native.Nat.{◌-◌, ◌*◌}
use lib.Dec.{eqb}
use lib.ListN.{drop}
use Rattle.name_object.specs.Component.{component_limit}
use Rattle.name_object.specs.Memory.{bytes_ok, path_ok}
use Rattle.path.proofs.valid.holds_path.Given as goal

abbrev pub invariant-loop-i : goal.invariant-loop-i
invariant-loop-i l = bytes_ok (eqb l.i 0) (l.name.count - l.i) (drop (4 * l.i) l.name.bytes) ≡ path_ok component_limit l.name
