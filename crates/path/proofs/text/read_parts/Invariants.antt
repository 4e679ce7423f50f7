use mathlib.Core.Path.{◌≡◌}
use mathlib.Core.List.{List}
use Prim.Native.Nat.{◌+◌, ◌≤◌}
use lib.ListN.{length, drop}
use Rattle.name_object.specs.Component.{Component, component_limit}
use Rattle.path.specs.Text.{reading, before}
use Rattle.path.specs.Inside.{shown, after, OnWay}
use Rattle.path.proofs.text.read_parts.Given as goal

abbrev pub invariant-loop-i : goal.invariant-loop-i
invariant-loop-i l =
    (l.from ≤ l.i) × (l.i ≤ length l.text) × (l.s.count + l.s.chars ≤ l.i)
    × ((done : List Component) → l.initial.out ≡ shown component_limit done → l.from ≡ length done → OnWay component_limit l.out l.s l.i (drop l.i l.text) (after done (reading before l.from (drop l.from l.text))))
