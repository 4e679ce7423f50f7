use mathlib.Core.Path.{◌≡◌}
use Prim.Native.Nat.{◌+◌, ◌<◌}
use lib.ListN.{take, drop, get_or}
use Rattle.table.specs.Layout.{rank_of}
use Rattle.table.specs.Inside.{counts, run, subtree_end}
use Rattle.table.proofs.inner.subtree_end.Given as goal

abbrev pub invariant-loop-level : goal.invariant-loop-level
invariant-loop-level l =
    (l.fn.place.level < l.level) × (l.binding ≡ counts (take l.level l.levels)) × (l.rank ≡ rank_of (get_or l.levels l.fn.place.level 0))
    × (l.level + run l.rank (drop l.level l.levels) ≡ subtree_end l.levels l.fn.place.level)
