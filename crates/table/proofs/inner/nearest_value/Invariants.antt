use mathlib.Core.Path.{◌≡◌}
use lib.ListN.{length}
use Rattle.table.specs.Inside.{deepest, value_held}
use Rattle.table.proofs.inner.nearest_value.Given as goal

abbrev pub invariant-loop-i : goal.invariant-loop-i
invariant-loop-i l =
    deepest (value_held l.levels l.bindings l.scope l.seg) l.i ≡ deepest (value_held l.levels l.bindings l.scope l.seg) (length l.scope)
