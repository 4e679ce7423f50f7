use mathlib.Core.Path.{◌≡◌}
use mathlib.Core.List.{◌++◌}
use lib.ListN.{length, take, drop}
use Rattle.table.specs.Inside.{push}
use Rattle.table.proofs.inner.make_room.Given as goal

abbrev pub invariant-loop-x : goal.invariant-loop-x
invariant-loop-x l =
    (length l.x-items ≡ length l.initial.x-items) × (take l.x-index l.x-items ++ push l.carried (drop l.x-index l.x-items) ≡ push l.w (drop l.at l.fn.xs))
