use mathlib.Core.Path.{◌≡◌}
use Prim.Native.Nat.{◌+◌, ◌-◌}
use lib.ListN.{take}
use Rattle.name_object.specs.Component.{component_limit}
use Rattle.name_object.specs.Memory.{name_of, path_of_name}
use Rattle.namespace.proofs.paths.Absolute.around.Given as goal

abbrev pub invariant-loop-i : goal.invariant-loop-i
invariant-loop-i l = l.name ≡ name_of component_limit (take (l.self.name.count + l.fn.n - l._i) (path_of_name l.self.name))
