use mathlib.Core.Path.{◌≡◌}
use Prim.Native.Nat.{◌+◌}
use lib.ListN.{take}
use Rattle.name_object.specs.Component.{component_limit}
use Rattle.name_object.specs.Memory.{name_of}
use Rattle.name_object.proofs.Building.{whole}
use Rattle.name_object.proofs.build.Given as goal

abbrev pub invariant-loop-byte : goal.invariant-loop-byte
invariant-loop-byte l = l.name ≡ name_of component_limit (take l.byte-index (whole l.input l.run.from l.run.count))

abbrev pub invariant-loop-j : goal.invariant-loop-j
invariant-loop-j l = l.name ≡ name_of component_limit (take (l.pre + l.j) (whole l.input l.run.from l.run.count))
