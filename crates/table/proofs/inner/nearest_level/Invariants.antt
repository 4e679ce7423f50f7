use mathlib.Core.Path.{◌≡◌}
use lib.ListN.{length}
use Rattle.table.specs.Inside.{deepest, level_held}
use Rattle.table.proofs.inner.nearest_level.Given as goal

abbrev pub invariant-loop-i : goal.invariant-loop-i
invariant-loop-i l =
    deepest (level_held l.levels l.scope l.seg) l.i ≡ deepest (level_held l.levels l.scope l.seg) (length l.scope)
