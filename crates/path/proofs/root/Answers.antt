-- The root is pushed on the empty path.
use mathlib.Core.Path.{refl}
use Rattle.name_object.specs.Component.{root, component_limit}
use Rattle.path.proofs.Flags.{push-first, count_none}
use native.Mathlib.Omega.{arith}
use Rattle.path.proofs.root.Goals as goal

pub push-requires : goal.push-requires
push-requires c = omega (arith, count_none component_limit c.empty.result c.empty.ensures)

pub returns : goal.returns
returns c = push-first component_limit _ c.empty.result root 0x5C 0 0 0 (omega arith) refl c.push.ensures c.empty.ensures
