-- A loop that looks at every byte: whether all before j were zero, and those from j on are.
use mathlib.Core.Path.{◌≡◌, refl}
use mathlib.Core.Bool.{Bool, true, false, ◌&&◌, cond}
use mathlib.Core.List.{List}
use Prim.Native.Nat.{ℕ, suc, ◌+◌, ◌≤◌, ◌<◌}
use native.Mathlib.Omega.{arith}
use lib.Dec.{eqb}
use lib.ListN.{length, get_or, drop, drop_of_length-le}
use lib.Seq.{drop-cons}
use Rattle.name_object.specs.Memory.{all_zero}

pub clean-turn : (bs : List ℕ) (j : ℕ) (clean next : Bool) → j < length bs → next ≡ (clean && eqb (get_or bs j 0) 0) →
    (next && all_zero (drop (j + 1) bs)) ≡ (clean && all_zero (drop j bs))
unfolding all_zero
clean-turn bs j true next h e = let s : j + 1 ≡ suc j = omega arith in rw (e, drop-cons bs j 0 h, s)
clean-turn bs j false next h e = rw e

pub clean_end : (bs : List ℕ) (j : ℕ) (clean : Bool) → length bs ≤ j → clean ≡ (clean && all_zero (drop j bs))
unfolding all_zero
clean_end bs j true h = rw (drop_of_length-le bs h)
clean_end bs j false h = refl

-- a test that is a choice, as the layers above write it
pub cond-and : (t u : Bool) → cond t u false ≡ (t && u)
cond-and true u = refl
cond-and false u = refl
