use mathlib.Core.Path.{◌≡◌}
use Prim.Native.Nat.{ℕ, ◌+◌, ◌*◌, ◌<◌}
use lib.ListN.{get_or}
use Rattle.image.proofs.load.each.Given as goal

abbrev pub invariant-loop-w : goal.invariant-loop-w
invariant-loop-w g l =
    record {
      done : (k : ℕ) → k < l.w-index → goal.F-post g l.word (l.fn.at + k * l.width) (get_or l.words k 0);
      place : l.at ≡ l.fn.at + l.w-index * l.width;
    }
