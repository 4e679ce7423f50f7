-- Bits, most significant first: a number in so many bits, bytes as bits, and bits packed into bytes.
use Rattle.std.specs.Prelude.{ℕ, zero, suc, ◌+◌, ◌-◌, ◌*◌, ◌/◌, ◌%◌, ◌^◌, Bool, cond, List, [], ◌∷◌, ◌++◌, eqb, length, take, drop}

-- the w lowest bits of a number, the highest of them first
unfoldable pub bits : ℕ → ℕ → List Bool
bits zero v = []
bits (suc w) v = eqb (v / 2 ^ w % 2) 1 ∷ bits w v

-- the number that bits spell
unfoldable pub number_of : List Bool → ℕ
number_of [] = 0
number_of (b ∷ bs) = cond b (2 ^ length bs) 0 + number_of bs

-- the bits of bytes
unfoldable pub bits_in : List ℕ → List Bool
bits_in [] = []
bits_in (b ∷ bs) = bits 8 b ++ bits_in bs

-- how many bytes so many bits take
abbrev pub bytes_for : ℕ → ℕ
bytes_for n = (n + 7) / 8

-- n bytes of bits; where the bits end before the byte does, zero bits follow
unfoldable pub bytes_of : ℕ → List Bool → List ℕ
bytes_of zero bs = []
bytes_of (suc n) bs = number_of (take 8 bs) * 2 ^ (8 - length (take 8 bs)) ∷ bytes_of n (drop 8 bs)

-- bits in bytes, with zero bits to the byte end
unfoldable pub packed : List Bool → List ℕ
packed bs = bytes_of (bytes_for (length bs)) bs

-- A field: a number in so many bits. Fields stand one behind the other.
pub record Field : Type 0 where
  pub width : ℕ
  pub number : ℕ

abbrev pub field : ℕ → ℕ → Field
field w n = record { width = w; number = n }

unfoldable pub spelled : List Field → List Bool
spelled [] = []
spelled (f ∷ fs) = bits f.width f.number ++ spelled fs

-- the number in the w bits from place p on
abbrev pub number_at : List Bool → ℕ → ℕ → ℕ
number_at bs w p = number_of (take w (drop p bs))
