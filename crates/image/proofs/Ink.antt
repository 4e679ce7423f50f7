-- Bits packed into bytes come back, with zero bits to the byte end; and bits put at a place and then behind it are put there at once.
-- One byte at a time: what a byte spells is the bits that were packed into it, weighed by the zeros behind them.
use mathlib.Core.Path.{◌≡◌, refl, ap, ap₂, sym, ◌∙◌}
use mathlib.Core.Bool.{Bool, false}
use mathlib.Core.Logic.{⊎_elim}
use mathlib.Core.List.{List, [], ◌∷◌, ◌++◌, append_assoc, append-nil}
use Prim.Native.Nat.{ℕ, zero, suc, ◌+◌, ◌-◌, ◌*◌, ◌/◌, ◌%◌, ◌^◌, ◌<◌, ◌≤◌}
use native.Mathlib.Omega.{arith}
use native.Mathlib.Nat.{add-mul, mul_assoc, mod-eq_of_lt, mul-mod_left, zero-div, suc-add, zero-add}
use lib.ListN.{length, take, drop, get_or, set, replicate, length-append, length-drop, replicate-append-replicate, take-append-drop, drop_of_length-le}
use lib.Seq.{take_at, drop_at, take_all, drop-drop, drop-append-add, length-take-le, set_split}
use lib.Pow.{pow-add, shl-shr}
use Rattle.table.proofs.Facts.{lt-or-le}
use Rattle.image.specs.Bits.{bits, number_of, bits_in, bytes_for, bytes_of, packed}
use Rattle.image.specs.Inside.{ink}
use Rattle.image.proofs.Fields.{length-bits, number-bits, number_append, bits-number, bits-split, bits-mod, length-bits_in, bits_in-append, head-of-byte, high-low}

pub length-bytes_of : (n : ℕ) (xs : List Bool) → length (bytes_of n xs) ≡ n
unfolding bytes_of
length-bytes_of zero xs = refl
length-bytes_of (suc n) xs = ap suc (length-bytes_of n (drop 8 xs))

pub length-packed : (xs : List Bool) → length (packed xs) ≡ bytes_for (length xs)
unfolding packed
length-packed xs = length-bytes_of (bytes_for (length xs)) xs

pub bits-zero : (k : ℕ) → bits k 0 ≡ replicate k false
unfolding bits
bits-zero zero = refl
bits-zero (suc k) = rw (zero-div (2 ^ k)) (ap (λ (l : List Bool). false ∷ l) (bits-zero k))

-- a byte of at most 8 bits has them, then zeros
byte-bits : (ys : List Bool) → length ys ≤ 8 → bits 8 (number_of ys * 2 ^ (8 - length ys)) ≡ ys ++ replicate (8 - length ys) false
byte-bits ys h =
    ap (λ (k : ℕ). bits k (number_of ys * 2 ^ (8 - length ys))) (omega arith)
    ∙ bits-split (length ys) (8 - length ys) (number_of ys * 2 ^ (8 - length ys))
    ∙ rw (shl-shr (number_of ys) (8 - length ys), bits-number ys (length ys) refl)
    (ap (λ (l : List Bool). ys ++ l)
    (sym (bits-mod (8 - length ys) (number_of ys * 2 ^ (8 - length ys)))
    ∙ rw (mul-mod_left (number_of ys) (2 ^ (8 - length ys))) (bits-zero (8 - length ys))))

module _ (n : ℕ) (xs : List Bool) (ih : bits_in (bytes_of n (drop 8 xs)) ≡ drop 8 xs ++ replicate (8 * n - length (drop 8 xs)) false) where
  short-bytes : length xs ≤ 8 → bits_in (bytes_of (suc n) xs) ≡ xs ++ replicate (8 * suc n - length xs) false
  unfolding bytes_of bits_in
  short-bytes h =
      rw (take_all 8 xs h, ih, drop_of_length-le xs {i = 8} h, byte-bits xs h, append_assoc xs (replicate (8 - length xs) false) (replicate (8 * n - 0) false), replicate-append-replicate (8 - length xs) (8 * n - 0) false)
      (ap (λ (k : ℕ). xs ++ replicate k false) spare)
    where
      spare : (8 - length xs) + (8 * n - 0) ≡ 8 * suc n - length xs
      spare = omega arith

  long-bytes : 8 ≤ length xs → bits_in (bytes_of (suc n) xs) ≡ xs ++ replicate (8 * suc n - length xs) false
  unfolding bytes_of bits_in
  long-bytes h =
      let l = length-take-le 8 xs h in
      rw (ih, byte-bits (take 8 xs) (omega arith), l, append-nil (take 8 xs))
      (sym (append_assoc (take 8 xs) (drop 8 xs) (replicate (8 * n - length (drop 8 xs)) false))
      ∙ ap₂ {C = List Bool} ◌++◌ (take-append-drop 8 xs) (ap (λ (k : ℕ). replicate k false) spare))
    where
      spare : 8 * n - length (drop 8 xs) ≡ 8 * suc n - length xs
      spare = rw (length-drop 8 xs) (omega arith)

bytes_bits : (n : ℕ) (xs : List Bool) → length xs ≤ 8 * n → bits_in (bytes_of n xs) ≡ xs ++ replicate (8 * n - length xs) false
bytes_bits zero [] h = unfold bytes_of bits_in in refl
bytes_bits zero (x ∷ xs) h = absurd (omega arith)
bytes_bits (suc n) xs h =
    let ih = bytes_bits n (drop 8 xs) (rw (length-drop 8 xs) (omega arith)) in
    ⊎_elim (λ l. short-bytes n xs ih (omega arith)) (λ l. long-bytes n xs ih l) (lt-or-le (length xs) 8)

-- packed bits, read again
pub packed-bits : (xs : List Bool) → bits_in (packed xs) ≡ xs ++ replicate (8 * bytes_for (length xs) - length xs) false
unfolding packed
packed-bits xs = bytes_bits (bytes_for (length xs)) xs (omega arith)

packed-front : (xs : List Bool) (ds : List ℕ) (n : ℕ) → length xs ≡ n → take n (bits_in (packed xs ++ ds)) ≡ xs
packed-front xs ds n h =
    rw (bits_in-append (packed xs) ds, packed-bits xs, append_assoc xs (replicate (8 * bytes_for (length xs) - length xs) false) (bits_in ds)) (take_at xs _ n h)

module _ (out : List ℕ) (p : ℕ) (bs : List Bool) (room : p + length bs ≤ 8 * length out) where
  length-head : length (take p (bits_in out) ++ bs) ≡ p + length bs
  length-head = rw (length-append (take p (bits_in out)) bs, length-take-le p (bits_in out) (rw (length-bits_in out) (omega arith)))

  pub length-ink : length (ink out p bs) ≡ length out
  unfolding ink
  length-ink =
      rw (length-append (packed (take p (bits_in out) ++ bs)) (drop (bytes_for (p + length bs)) out), length-packed (take p (bits_in out) ++ bs), length-head, length-drop (bytes_for (p + length bs)) out)
      (omega arith)

  -- bits behind bits
  module _ (q : ℕ) (cs : List Bool) (e : q ≡ p + length bs) where
    more : ℕ
    more = bytes_for (q + length cs) - bytes_for (p + length bs)

    steps : bytes_for (q + length cs) ≡ length (packed (take p (bits_in out) ++ bs)) + more
    unfolding more
    steps = rw (length-packed (take p (bits_in out) ++ bs), length-head) (omega arith)

    sum : bytes_for (p + length bs) + more ≡ bytes_for (p + length (bs ++ cs))
    unfolding more
    sum = rw (length-append bs cs) (omega arith)

    dropped : drop (bytes_for (q + length cs)) (packed (take p (bits_in out) ++ bs) ++ drop (bytes_for (p + length bs)) out) ≡ drop (bytes_for (p + length (bs ++ cs))) out
    dropped =
        ap (λ (k : ℕ). drop k (packed (take p (bits_in out) ++ bs) ++ drop (bytes_for (p + length bs)) out)) steps
        ∙ drop-append-add (packed (take p (bits_in out) ++ bs)) (drop (bytes_for (p + length bs)) out) more
        ∙ drop-drop more (bytes_for (p + length bs)) out
        ∙ ap (λ (k : ℕ). drop k out) sum

    pub ink-ink : ink (ink out p bs) q cs ≡ ink out p (bs ++ cs)
    unfolding ink
    ink-ink =
        rw (packed-front (take p (bits_in out) ++ bs) (drop (bytes_for (p + length bs)) out) q (length-head ∙ sym e), append_assoc (take p (bits_in out)) bs cs)
        (ap (λ (l : List ℕ). packed (take p (bits_in out) ++ (bs ++ cs)) ++ l) dropped)

-- whole bytes are packed as they are
pub bytes-again : (i k : ℕ) (out : List ℕ) (xs : List Bool) → i ≤ length out → ((j : ℕ) → get_or out j 0 < 256) → bytes_of (i + k) (bits_in (take i out) ++ xs) ≡ take i out ++ bytes_of k xs
unfolding bytes_of bits_in
bytes-again zero k out xs h b = rw (zero-add k)
bytes-again (suc i) k [] xs h b = absurd (omega arith)
bytes-again (suc i) k (a ∷ out) xs h b =
    rw (suc-add i k, append_assoc (bits 8 a) (bits_in (take i out)) xs, take_at (bits 8 a) (bits_in (take i out) ++ xs) 8 (length-bits 8 a), drop_at (bits 8 a) (bits_in (take i out) ++ xs) 8 (length-bits 8 a), length-bits 8 a, number-bits 8 a, bytes-again i k out xs (omega arith) (λ j. b (suc j)))
    (ap (λ (x : ℕ). x ∷ (take i out ++ bytes_of k xs)) (omega (arith, b 0)))

-- a part of one byte
module _ (out : List ℕ) (i s n v : ℕ) (hi : i < length out) (hn : 0 < n) (hs : s + n ≤ 8) (b : (j : ℕ) → get_or out j 0 < 256) where
  abbrev x : ℕ
  x = get_or out i 0

  abbrev H : ℕ
  H = x / 2 ^ (8 - s)

  head-low : H < 2 ^ s
  head-low = high-low x s n v (b i) hs

  weight : 2 ^ n * 2 ^ (8 - (s + n)) ≡ 2 ^ (8 - s)
  weight = sym (pow-add 2 n (8 - (s + n))) ∙ ap (λ (k : ℕ). 2 ^ k) (omega arith)

  abbrev own : List Bool
  own = bits s H ++ bits n v

  own-length : length own ≡ s + n
  own-length = rw (length-append (bits s H) (bits n v), length-bits s H, length-bits n v)

  own-number : number_of own * 2 ^ (8 - (s + n)) ≡ H * 2 ^ (8 - s) + v % 2 ^ n * 2 ^ (8 - (s + n))
  own-number =
      rw (number_append (bits s H) (bits n v), length-bits n v, number-bits s H, number-bits n v, mod-eq_of_lt head-low, add-mul (H * 2 ^ n) (v % 2 ^ n) (2 ^ (8 - (s + n))), mul_assoc H (2 ^ n) (2 ^ (8 - (s + n))), weight)

  own-byte : bytes_of 1 own ≡ (H * 2 ^ (8 - s) + v % 2 ^ n * 2 ^ (8 - (s + n))) ∷ []
  unfolding bytes_of
  own-byte = rw (take_all 8 own (omega (arith, own-length)), own-length, own-number)

  whole : packed (take (8 * i + s) (bits_in out) ++ bits n v) ≡ take i out ++ ((H * 2 ^ (8 - s) + v % 2 ^ n * 2 ^ (8 - (s + n))) ∷ [])
  unfolding packed
  whole =
      rw (head-of-byte out i s n hi hs, append_assoc (bits_in (take i out)) (bits s H) (bits n v))
      (ap (λ (k : ℕ). bytes_of k (bits_in (take i out) ++ own))
      (rw (length-append (bits_in (take i out)) own, length-bits_in (take i out), length-take-le i out (omega arith), own-length) (omega arith))
      ∙ bytes-again i 1 out own (omega arith) b ∙ ap (λ (l : List ℕ). take i out ++ l) own-byte)

  behind : 8 - s - n ≡ 8 - (s + n)
  behind = omega arith

  next : bytes_for (8 * i + s + n) ≡ suc i
  next = omega arith

  pub ink-part : set out i (H * 2 ^ (8 - s) + v % 2 ^ n * 2 ^ (8 - s - n)) ≡ ink out (8 * i + s) (bits n v)
  unfolding ink
  ink-part =
      ap (λ (k : ℕ). set out i (H * 2 ^ (8 - s) + v % 2 ^ n * 2 ^ k)) behind
      ∙ set_split out i _ hi
      ∙ sym (rw (whole, length-bits n v, append_assoc (take i out) ((H * 2 ^ (8 - s) + v % 2 ^ n * 2 ^ (8 - (s + n))) ∷ []) (drop (bytes_for (8 * i + s + n)) out), next))

-- a field's first bits, and then the others
pub ink-split : (out : List ℕ) (p n w v : ℕ) → n ≤ w → p + w ≤ 8 * length out → ink (ink out p (bits n (v / 2 ^ (w - n)))) (p + n) (bits (w - n) v) ≡ ink out p (bits w v)
ink-split out p n w v h room =
    ink-ink out p (bits n (v / 2 ^ (w - n))) (rw (length-bits n (v / 2 ^ (w - n))) (omega arith)) (p + n) (bits (w - n) v) (rw (length-bits n (v / 2 ^ (w - n))))
    ∙ ap (ink out p) (sym (bits-split n (w - n) v) ∙ ap (λ (k : ℕ). bits k v) (omega arith))
