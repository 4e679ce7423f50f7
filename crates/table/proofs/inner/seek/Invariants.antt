use mathlib.Core.Path.{◌≡◌}
use lib.ListN.{take}
use Rattle.table.specs.Inside.{counts}
use Rattle.table.proofs.Child.{Cursor}
use Rattle.table.proofs.inner.seek.Given as goal

abbrev pub invariant-loop-j : goal.invariant-loop-j
invariant-loop-j l = Cursor l.levels l.path l.j l.here.level l.next.level l.next.binding × (l.here.binding ≡ counts (take l.here.level l.levels))
