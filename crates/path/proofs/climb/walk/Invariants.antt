use mathlib.Core.Path.{◌≡◌}
use mathlib.Core.Bool.{true}
use mathlib.Core.List.{List}
use Prim.Native.Nat.{◌+◌, ◌≤◌}
use Rattle.name_object.specs.Component.{Component, fine, component_limit}
use Rattle.name_object.specs.Memory.{path_of_name}
use Rattle.path.specs.Inside.{fresh, Shows}
use Rattle.path.proofs.Climbs.{Along}
use Rattle.path.proofs.climb.walk.Given as goal

abbrev pub invariant-loop-i : goal.invariant-loop-i
invariant-loop-i l =
    (l.high ≤ l.start + l.i)
    × ((done : List Component) → Shows component_limit l.initial.out l.start done → fine (fresh done) (path_of_name l.path.name.now) ≡ true →
    Along component_limit l.out l.high done (path_of_name l.path.name.now) l.i)
