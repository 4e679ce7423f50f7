-- Small facts about tests and numbers that the laws cite.
use mathlib.Core.Path.{◌≡◌, refl, ap, ◌∙◌}
use mathlib.Core.Bool.{Bool, true, false}
use mathlib.Core.Logic.{◌⊎◌, inl, inr}
use mathlib.Core.List.{List, ◌++◌, append-nil}
use Prim.Native.Nat.{ℕ, zero, suc, ◌+◌, ◌-◌, ◌<◌, ◌≤◌}
use native.Mathlib.Omega.{arith}
use lib.Dec.{ltb}
use lib.ListN.{length, take, drop, get_or, replicate, length-drop, drop_of_length-le}
use lib.Seq.{take_all}
use borrow.Rule.Slice.PartMut.{put_mid}
use borrow.Author.Tests.{ltb-true, ltb-false}

pub lt-or-le : (m n : ℕ) → (m < n) ⊎ (n ≤ m)
lt-or-le m n = go (ltb m n) refl
  where
    go : (t : Bool) → ltb m n ≡ t → (m < n) ⊎ (n ≤ m)
    go true e = inl (ltb-true m n e)
    go false e = inr (ltb-false m n e)

-- sums, where they stand under a function
pub plus-zero : (n : ℕ) → n ≡ n + 0
plus-zero n = omega arith

pub zero-plus : (n : ℕ) → 0 + n ≡ n
zero-plus n = omega arith

pub suc-plus : (m n : ℕ) → suc m + n ≡ m + suc n
suc-plus m n = omega arith

pub one_less : (n k : ℕ) → n < k → k - n ≡ suc (k - suc n)
one_less n k h = omega arith

-- spare room
pub get_or-zeros : (n i : ℕ) → get_or {A = ℕ} (replicate n 0) i 0 ≡ 0
get_or-zeros zero i = refl
get_or-zeros (suc n) zero = refl
get_or-zeros (suc n) (suc i) = get_or-zeros n i

-- a part up to the end
pub tail-whole : (n : ℕ) (l : List ℕ) → take (length l - n) (drop n l) ≡ drop n l
tail-whole n l = take_all (length l - n) (drop n l) (omega (arith, length-drop n l))

-- what stands in a list after a part up to the end was written
pub tail_put : (n : ℕ) (l new : List ℕ) → put_mid n (length l - n) l new ≡ take n l ++ new
tail_put n l new =
    ap (λ (x : List ℕ). take n l ++ (new ++ x)) (drop_of_length-le (drop n l) (omega (arith, length-drop n l))) ∙ ap (λ (x : List ℕ). take n l ++ x) (append-nil new)
