use mathlib.Core.Path.{◌≡◌}
use Prim.Native.Nat.{◌*◌, ◌≤◌}
use lib.ListN.{drop}
use Rattle.table.specs.Inside.{child_in}
use Rattle.table.proofs.inner.find_child.Given as goal

abbrev pub invariant-loop-level : goal.invariant-loop-level
invariant-loop-level l =
    (l.binding ≤ 1023 * l.level) × (child_in l.rank l.seg (drop l.level l.levels) l.level l.binding ≡ child_in l.rank l.seg (drop l.fn.from.level l.levels) l.fn.from.level l.fn.from.binding)
