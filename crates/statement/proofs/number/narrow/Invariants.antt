use Rattle.std.proofs.Common.{◌≡◌, ◌++◌, map, take, drop}
use Rattle.statement.specs.Frames.{bits, low}
use Rattle.statement.proofs.number.narrow.Given as goal

-- what is behind the loop is the low bits, and what is before it is as it was
abbrev pub invariant-loop-v : goal.invariant-loop-v
invariant-loop-v l = l.val ≡ take l.v-index (map (low (bits l.w)) l.initial.val) ++ drop l.v-index l.initial.val
