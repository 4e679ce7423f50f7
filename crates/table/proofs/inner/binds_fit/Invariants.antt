use mathlib.Core.Path.{◌≡◌}
use Prim.Native.Nat.{◌+◌, ◌-◌, ◌*◌, ◌/◌, ◌%◌, ◌^◌, ◌≤◌}
use lib.Seq.{slice}
use Rattle.table.specs.Inside.{below}
use Rattle.table.proofs.Turns.{rest_ok}
use Rattle.table.proofs.inner.binds_fit.Given as goal

abbrev pub invariant-loop-word : goal.invariant-loop-word
invariant-loop-word l =
    (l.last % 2 ^ 32 ≡ 2 ^ 32 - 1) × (10 * 37 ^ 3 ≤ l.last / 2 ^ 32 + 1)
    × (rest_ok (below l.made) l.last (slice l.word-index l.n l.bindings) ≡ rest_ok (below l.made) (10 * 37 ^ 3 * 2 ^ 32 - 1) (slice 0 l.n l.bindings))
