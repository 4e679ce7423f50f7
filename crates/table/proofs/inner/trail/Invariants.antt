use mathlib.Core.Path.{◌≡◌}
use Prim.Native.Nat.{ℕ, ◌+◌, ◌-◌, ◌<◌}
use lib.ListN.{length, get_or}
use Rattle.name_object.specs.Component.{component_limit}
use Rattle.table.specs.Inside.{start, Reached}
use Rattle.table.proofs.Child.{Cursor}
use Rattle.table.proofs.inner.trail.Given as goal

abbrev pub invariant-loop-j : goal.invariant-loop-j
invariant-loop-j l =
    Cursor l.levels l.scope l.j (l.next.level - 1) l.next.level l.next.binding
    × ((i : ℕ) → i < l.j → Reached l.levels l.scope (i + 1) (get_or l.places i start).level (get_or l.places i start).binding) × (length l.places ≡ component_limit)
