-- Sums modulo 256: the turn of a loop over bytes, and the one checksum that makes a sum 0.
use mathlib.Core.Path.{◌≡◌, refl}
use mathlib.Core.List.{List, [], ◌∷◌, ◌++◌}
use Prim.Native.Nat.{ℕ, ◌+◌, ◌-◌, ◌%◌, ◌^◌, ◌<◌}
use native.Mathlib.Omega.{arith}
use Rattle.header.specs.Header.{total, sum_of}

pub total-cons : (x : ℕ) (xs : List ℕ) → total (x ∷ xs) ≡ x + total xs
unfolding total
total-cons x xs = refl

total-none : total [] ≡ 0
unfolding total
total-none = refl

pub total-append : (xs ys : List ℕ) → total (xs ++ ys) ≡ total xs + total ys
unfolding total
total-append [] ys = omega arith
total-append (x ∷ xs) ys = rw (total-append xs ys) (omega arith)

pub summed-none : 0 ≡ sum_of []
summed-none = rw total-none

-- one byte more
pub summed : (xs : List ℕ) (a x b : ℕ) → a ≡ sum_of xs → b ≡ (a + x) % 2 ^ 8 → b ≡ sum_of (xs ++ (x ∷ []))
summed xs a x b e f = omega (arith, total-append xs (x ∷ []), total-cons x [], total-none)

-- the byte that makes a sum 0, and no other does
pub checksum-fits : (n : ℕ) → (n + (256 - n % 256) % 256) % 256 ≡ 0
checksum-fits n = omega arith

pub checksum-only : (n c : ℕ) → c < 256 → (n + c) % 256 ≡ 0 → c ≡ (256 - n % 256) % 256
checksum-only n c h e = omega arith
