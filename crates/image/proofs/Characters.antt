-- Four characters in a number, the first one highest.
use mathlib.Core.Path.{◌≡◌, ap}
use mathlib.Core.List.{List, [], ◌∷◌}
use Prim.Native.Nat.{ℕ, ◌+◌, ◌*◌, ◌/◌, ◌%◌, ◌^◌, ◌<◌}
use native.Mathlib.Omega.{arith}
use lib.ListN.{get_or}
use Rattle.std.specs.Int.{w32, to_be_bytes, from_be_bytes}
use Rattle.table.specs.Tree.{number}

pub highest : (v : ℕ) → v < 2 ^ 32 → v / 16777216 % 256 ≡ v / 16777216
highest v h = omega arith

pub number-of-bytes : (v : ℕ) → v < 2 ^ 32 → (bs : List ℕ) → bs ≡ to_be_bytes w32 v
    → number (get_or bs 0 0) (get_or bs 1 0) (get_or bs 2 0) (get_or bs 3 0) ≡ number (v / 2 ^ 24) (v / 2 ^ 16 % 256) (v / 2 ^ 8 % 256) (v % 256)
number-of-bytes v h bs e = rw e (ap (λ (a : ℕ). number a (v / 2 ^ 16 % 256) (v / 2 ^ 8 % 256) (v % 256)) (highest v h))

pub in-a-number : (a b c d : ℕ) → from_be_bytes w32 (a ∷ b ∷ c ∷ d ∷ []) ≡ ((a * 256 + b) * 256 + c) * 256 + d
in-a-number a b c d = omega arith
