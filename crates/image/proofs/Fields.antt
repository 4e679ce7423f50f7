-- Fields of bits, once for every width and place: what w bits spell is the number modulo 2 ^ w, and bits are those of what they spell.
-- All of it goes by the first bit, which weighs 2 to the number of bits behind it.
use mathlib.Core.Path.{◌≡◌, refl, ap, sym, subst, ◌∙◌}
use mathlib.Core.Bool.{Bool, true, false, cond}
use mathlib.Core.List.{List, [], ◌∷◌, ◌++◌, append_assoc}
use Prim.Native.Nat.{ℕ, zero, suc, ◌+◌, ◌-◌, ◌*◌, ◌/◌, ◌%◌, ◌^◌, ◌<◌, ◌≤◌}
use native.Mathlib.Omega.{arith}
use native.Mathlib.Nat.{add_comm, add-mul, mod-lt, mod-eq_of_lt, two-pow-succ, suc-add, zero-add, suc-mul, lt_of_lt_of_le, min-le_left, mul-le-mul_right}
use lib.Dec.{eqb}
use lib.ListN.{length, take, drop, get_or, length-append, length-take, take-append-drop}
use lib.Seq.{take_at, drop_at, drop-drop, drop-cons, length-take-le, take-add}
use lib.Pow.{pow_pos, pow_mono, pow-add, shr-shr, shr_lt, shl_lt, mod-pow-add}
use borrow.Author.Tests.{eqb-true, eqb-false}
use Rattle.image.specs.Bits.{bits, number_of, bits_in, number_at}

-- high bits above k low ones
pub join-low : (j k a b : ℕ) → a < 2 ^ j → b < 2 ^ k → a * 2 ^ k + b < 2 ^ (j + k)
join-low j k a b ha hb = rw (pow-add 2 j k) (lt_of_lt_of_le (below (a * 2 ^ k) (suc-mul a (2 ^ k))) (mul-le-mul_right (2 ^ k) ha))
  where
    below : (x : ℕ) → suc a * 2 ^ k ≡ x + 2 ^ k → x + b < suc a * 2 ^ k
    below x e = omega arith

-- a byte's own bits
module _ (b s n v : ℕ) (hb : b < 256) (hs : s + n ≤ 8) where
  eight : s + (8 - s) ≡ 8
  eight = omega arith

  rest : n + (8 - s - n) ≡ 8 - s
  rest = omega arith

  pub high-low : b / 2 ^ (8 - s) < 2 ^ s
  high-low = shr_lt s (8 - s) (rw eight hb)

  low-low : v % 2 ^ n * 2 ^ (8 - s - n) < 2 ^ (8 - s)
  low-low = rw rest at (shl_lt n (8 - s - n) (mod-lt v (pow_pos n)))

  pub merged-low : b / 2 ^ (8 - s) * 2 ^ (8 - s) + v % 2 ^ n * 2 ^ (8 - s - n) < 256
  merged-low = rw eight at (join-low s (8 - s) (b / 2 ^ (8 - s)) (v % 2 ^ n * 2 ^ (8 - s - n)) high-low low-low)

pub length-bits : (w v : ℕ) → length (bits w v) ≡ w
unfolding bits
length-bits zero v = refl
length-bits (suc w) v = ap suc (length-bits w v)

-- a bit of a number
bit_is : (x : ℕ) (P : ℕ) → cond (eqb (x % 2) 1) P 0 ≡ (x % 2) * P
bit_is x P = go (eqb (x % 2) 1) refl
  where
    go : (b : Bool) → eqb (x % 2) 1 ≡ b → cond b P 0 ≡ (x % 2) * P
    go true e = rw (eqb-true (x % 2) 1 e) (omega arith)
    go false e = let n = eqb-false (x % 2) 1 e in let z : x % 2 ≡ 0 = omega arith in rw z (omega arith)

pub number-bits : (w v : ℕ) → number_of (bits w v) ≡ v % 2 ^ w
unfolding bits number_of
number-bits zero v = omega arith
number-bits (suc w) v =
    rw (length-bits w v, bit_is (v / 2 ^ w) (2 ^ w), number-bits w v)
    (sym (mod-pow-add v 1 w) ∙ ap (λ (k : ℕ). v % 2 ^ k) (omega arith))

pub number-low : (xs : List Bool) → number_of xs < 2 ^ length xs
unfolding number_of
number-low [] = omega arith
number-low (true ∷ xs) = let h = number-low xs in rw (two-pow-succ (length xs)) (omega arith)
number-low (false ∷ xs) = let h = number-low xs in rw (two-pow-succ (length xs)) (omega arith)

pub number_append : (xs ys : List Bool) → number_of (xs ++ ys) ≡ number_of xs * 2 ^ length ys + number_of ys
unfolding number_of
number_append [] ys = omega arith
number_append (b ∷ xs) ys =
    rw (number_append xs ys, length-append xs ys, add-mul (cond b (2 ^ length xs) 0) (number_of xs) (2 ^ length ys), weight b)
    (omega arith)
  where
    weight : (b : Bool) → cond b (2 ^ (length xs + length ys)) 0 ≡ cond b (2 ^ length xs) 0 * 2 ^ length ys
    weight true = pow-add 2 (length xs) (length ys)
    weight false = omega arith

-- as many bits that spell the same number are the same
module _ (xs ys : List Bool) (short : length xs ≡ length ys) (ih : number_of xs ≡ number_of ys → xs ≡ ys) where
  same_power : 2 ^ length xs ≡ 2 ^ length ys
  same_power = ap (λ (k : ℕ). 2 ^ k) short

  one_more : (x y : Bool) → cond x (2 ^ length xs) 0 + number_of xs ≡ cond y (2 ^ length ys) 0 + number_of ys → x ∷ xs ≡ y ∷ ys
  one_more true true e = ap (λ (l : List Bool). true ∷ l) (ih (omega (arith, same_power)))
  one_more false false e = ap (λ (l : List Bool). false ∷ l) (ih (omega (arith, same_power)))
  one_more true false e = absurd (omega (arith, same_power, number-low ys))
  one_more false true e = absurd (omega (arith, same_power, number-low xs))

pub number-one : (xs ys : List Bool) → length xs ≡ length ys → number_of xs ≡ number_of ys → xs ≡ ys
unfolding number_of
number-one [] [] l e = refl
number-one [] (y ∷ ys) l e = absurd (omega arith)
number-one (x ∷ xs) [] l e = absurd (omega arith)
number-one (x ∷ xs) (y ∷ ys) l e = one_more xs ys (omega arith) (number-one xs ys (omega arith)) x y e

-- bits are those of what they spell
pub bits-number : (xs : List Bool) (w : ℕ) → length xs ≡ w → bits w (number_of xs) ≡ xs
bits-number xs w h = number-one (bits w (number_of xs)) xs (length-bits w (number_of xs) ∙ sym h) (number-bits w (number_of xs) ∙ mod-eq_of_lt (subst (λ (k : ℕ). number_of xs < 2 ^ k) h (number-low xs)))

-- more bits than n: those above, and the n lowest
pub bits-split : (a n v : ℕ) → bits (a + n) v ≡ bits a (v / 2 ^ n) ++ bits n v
unfolding bits
bits-split zero n v = rw (zero-add n)
bits-split (suc a) n v = rw (suc-add a n, shr-shr v n a, add_comm n a, bits-split a n v)

-- bits above the w lowest do not show
pub bits-mod : (w v : ℕ) → bits w (v % 2 ^ w) ≡ bits w v
bits-mod w v = number-one (bits w (v % 2 ^ w)) (bits w v) (length-bits w (v % 2 ^ w) ∙ sym (length-bits w v)) (rw (number-bits w (v % 2 ^ w), number-bits w v, mod-eq_of_lt (mod-lt v (pow_pos w))))

-- Bytes.

pub length-bits_in : (bs : List ℕ) → length (bits_in bs) ≡ 8 * length bs
unfolding bits_in
length-bits_in [] = refl
length-bits_in (b ∷ bs) = rw (length-append (bits 8 b) (bits_in bs), length-bits 8 b, length-bits_in bs) (omega arith)

pub bits_in-append : (cs bs : List ℕ) → bits_in (cs ++ bs) ≡ bits_in cs ++ bits_in bs
unfolding bits_in
bits_in-append [] bs = refl
bits_in-append (a ∷ cs) bs = rw (bits_in-append cs bs, append_assoc (bits 8 a) (bits_in cs) (bits_in bs))

-- byte by byte
pub drop-bits_in : (i : ℕ) (bs : List ℕ) → i ≤ length bs → drop (8 * i) (bits_in bs) ≡ bits_in (drop i bs)
drop-bits_in i bs h =
    ap (λ (l : List ℕ). drop (8 * i) (bits_in l)) (sym (take-append-drop i bs))
    ∙ rw (bits_in-append (take i bs) (drop i bs)) (drop_at (bits_in (take i bs)) (bits_in (drop i bs)) (8 * i) (length-bits_in (take i bs) ∙ ap (λ (k : ℕ). 8 * k) (length-take-le i bs h)))

pub take-bits_in : (i : ℕ) (bs : List ℕ) → i ≤ length bs → take (8 * i) (bits_in bs) ≡ bits_in (take i bs)
take-bits_in i bs h =
    ap (λ (l : List ℕ). take (8 * i) (bits_in l)) (sym (take-append-drop i bs))
    ∙ rw (bits_in-append (take i bs) (drop i bs)) (take_at (bits_in (take i bs)) (bits_in (drop i bs)) (8 * i) (length-bits_in (take i bs) ∙ ap (λ (k : ℕ). 8 * k) (length-take-le i bs h)))

-- a part of one byte: n bits behind s, u being left
module _ (bs : List ℕ) (i s n : ℕ) (hi : i < length bs) (hs : s + n ≤ 8) where
  abbrev b : ℕ
  b = get_or bs i 0

  byte_split : bits 8 b ≡ bits s (b / 2 ^ (8 - s)) ++ (bits n (b / 2 ^ (8 - s - n)) ++ bits (8 - s - n) b)
  byte_split =
      ap (λ (k : ℕ). bits k b) (omega arith) ∙ bits-split s (8 - s) b
      ∙ ap (λ (l : List Bool). bits s (b / 2 ^ (8 - s)) ++ l) (ap (λ (k : ℕ). bits k b) (omega arith) ∙ bits-split n (8 - s - n) b)

  from_byte : drop (8 * i + s) (bits_in bs) ≡ bits n (b / 2 ^ (8 - s - n)) ++ (bits (8 - s - n) b ++ bits_in (drop (suc i) bs))
  unfolding bits_in
  from_byte =
      sym (drop-drop s (8 * i) (bits_in bs))
      ∙ rw (drop-bits_in i bs (omega arith), drop-cons bs i 0 hi, byte_split)
      (rw (append_assoc (bits s (b / 2 ^ (8 - s))) (bits n (b / 2 ^ (8 - s - n)) ++ bits (8 - s - n) b) (bits_in (drop (suc i) bs)))
      (drop_at (bits s (b / 2 ^ (8 - s))) _ s (length-bits s (b / 2 ^ (8 - s))) ∙ append_assoc (bits n (b / 2 ^ (8 - s - n))) (bits (8 - s - n) b) (bits_in (drop (suc i) bs))))

  pub part-of-byte : take n (drop (8 * i + s) (bits_in bs)) ≡ bits n (b / 2 ^ (8 - s - n))
  part-of-byte = rw from_byte (take_at (bits n (b / 2 ^ (8 - s - n))) _ n (length-bits n (b / 2 ^ (8 - s - n))))

  pub head-of-byte : take (8 * i + s) (bits_in bs) ≡ bits_in (take i bs) ++ bits s (b / 2 ^ (8 - s))
  unfolding bits_in
  head-of-byte = take-add (8 * i) s (bits_in bs)
      ∙ rw (take-bits_in i bs (omega arith), drop-bits_in i bs (omega arith), drop-cons bs i 0 hi, byte_split)
      (ap (λ (l : List Bool). bits_in (take i bs) ++ l)
      (rw (append_assoc (bits s (b / 2 ^ (8 - s))) (bits n (b / 2 ^ (8 - s - n)) ++ bits (8 - s - n) b) (bits_in (drop (suc i) bs)))
      (take_at (bits s (b / 2 ^ (8 - s))) _ s (length-bits s (b / 2 ^ (8 - s))))))

pub number-at-low : (bs : List Bool) (w p : ℕ) → number_at bs w p < 2 ^ w
number-at-low bs w p = lt_of_lt_of_le (number-low (take w (drop p bs))) (pow_mono (rw (length-take w (drop p bs)) (min-le_left w (length (drop p bs)))))

whole-and-rest : (p : ℕ) → p ≡ 8 * (p / 8) + p % 8
whole-and-rest p = omega arith

-- a field's next bits, as many as one byte has of them
module _ (bytes : List ℕ) (at done n : ℕ) (room : at + done + n ≤ 8 * length bytes) (hn : 0 < n) (hs : (at + done) % 8 + n ≤ 8) where
  abbrev p : ℕ
  p = at + done

  abbrev B : List Bool
  B = bits_in bytes

  next-bits : take n (drop p B) ≡ bits n (get_or bytes (p / 8) 0 / 2 ^ (8 - p % 8 - n))
  next-bits = ap (λ (k : ℕ). take n (drop k B)) (whole-and-rest p) ∙ part-of-byte bytes (p / 8) (p % 8) n (omega arith) hs

  pub next-part : number_at B (done + n) at ≡ number_at B done at * 2 ^ n + get_or bytes (p / 8) 0 / 2 ^ (8 - p % 8 - n) % 2 ^ n
  next-part =
      rw (take-add done n (drop at B), drop-drop done at B, next-bits, number_append (take done (drop at B)) (bits n (get_or bytes (p / 8) 0 / 2 ^ (8 - p % 8 - n))))
      (rw (length-bits n (get_or bytes (p / 8) 0 / 2 ^ (8 - p % 8 - n)), number-bits n (get_or bytes (p / 8) 0 / 2 ^ (8 - p % 8 - n))))

  -- the number so far, and those bits
  pub next-number : (v r t : ℕ) → v ≡ number_at B done at → r ≡ 2 ^ n → t ≡ get_or bytes (p / 8) 0 / 2 ^ (8 - p % 8 - n) % 2 ^ n → v * r + t ≡ number_at B (done + n) at
  next-number v r t e f g = rw (e, f, g) (sym next-part)

  pub next_fits : (v r : ℕ) → v ≡ number_at B done at → r ≡ 2 ^ n → done + n ≤ 64 → v * r < 2 ^ 64
  next_fits v r e f h = rw (e, f) (lt_of_lt_of_le (shl_lt done n (number-at-low B done at)) (pow_mono h))

pub number_fits : (bs : List Bool) (w p : ℕ) → w ≤ 64 → number_at bs w p < 2 ^ 64
number_fits bs w p h = lt_of_lt_of_le (number-at-low bs w p) (pow_mono h)
