use mathlib.Core.Path.{◌≡◌}
use Prim.Native.Nat.{◌≤◌}
use lib.ListN.{length, take}
use Rattle.name_object.specs.Component.{component_limit}
use Rattle.name_object.specs.Memory.{path_of_name}
use Rattle.table.specs.Tree.{keys}
use Rattle.namespace.proofs.keys.Keys.of.Given as goal

abbrev pub invariant-loop-i : goal.invariant-loop-i
invariant-loop-i l =
    (l.path.name.count ≤ component_limit) × (length l.keys ≡ component_limit) × (take l.i l.keys ≡ take l.i (keys (path_of_name l.path.name)))
