use mathlib.Core.Path.{◌≡◌}
use Prim.Native.Nat.{◌+◌, ◌≤◌}
use lib.ListN.{length, drop}
use Rattle.name_object.specs.Component.{component_limit}
use Rattle.table.specs.Inside.{scan, lowest, below}
use Rattle.table.proofs.inner.scan_levels.Given as goal

abbrev pub invariant-loop-k : goal.invariant-loop-k
invariant-loop-k l =
    (length l.low ≡ component_limit + 2) × (l.p ≤ component_limit)
    × (scan component_limit (below l.made) l.p l.low (drop l.k l.levels) l.left ≡ scan component_limit (below l.made) 0 (lowest component_limit) l.levels l.bindings)
