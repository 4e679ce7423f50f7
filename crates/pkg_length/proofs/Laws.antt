-- The number that n bytes spell, at any n: what the turn of a loop over them does, and how large it is.
use mathlib.Core.Path.{◌≡◌, refl, sym, ap, subst, ◌∙◌}
use mathlib.Core.List.{List, [], ◌∷◌, ◌++◌, append-nil}
use Prim.Native.Nat.{ℕ, zero, suc, ◌+◌, ◌-◌, ◌*◌, ◌/◌, ◌%◌, ◌^◌, ◌≤◌, ◌<◌}
use native.Mathlib.Nat.{pow-le-pow_right, pow-suc, one-le-pow}
use native.Mathlib.Omega.{arith}
use lib.Dec.{lit<}
use lib.ListN.{length, get_or, take, drop, length-append, length-drop}
use lib.Seq.{drop-cons, get_or-drop, drop-append_seam}
use Rattle.std.proofs.lemmas.List.{take_all}
use Rattle.std.proofs.Math.Seq.{append_snoc}
use Rattle.pkg_length.specs.Little.{little, little_bytes}

little-cons : (b : ℕ) (bs : List ℕ) → little (b ∷ bs) ≡ b + 256 * little bs
unfolding little
little-cons b bs = refl

-- the bytes from k on are known: the byte before them
pub little-turn : (xs : List ℕ) (at n k value : ℕ) → 0 < k → k ≤ n → at + n ≤ length xs →
    value ≡ little (take (n - k) (drop (at + k) xs)) →
    value * 256 + get_or xs (at + (k - 1)) 0 ≡ little (take (n - (k - 1)) (drop (at + (k - 1)) xs))
little-turn xs at n k value h l fits e =
    let j = at + (k - 1) in
    let split : drop j xs ≡ get_or xs j 0 ∷ drop (suc j) xs = drop-cons xs j 0 (omega arith) in
    let more : n - (k - 1) ≡ suc (n - k) = omega arith in
    let next : suc j ≡ at + k = omega arith in
    let step : little (take (n - (k - 1)) (drop j xs)) ≡ get_or xs j 0 + 256 * little (take (n - k) (drop (at + k) xs)) =
    rw (split, more, next) (little-cons _ _) in
    omega arith

-- n bytes spell less than 256 ^ n, at any n: the one fact behind constants of 1, 2, 4 and 8 bytes and the extra bytes of a length
pub little-small : (n : ℕ) (xs : List ℕ) → ((i : ℕ) → get_or xs i 0 < 256) → little (take n xs) < 256 ^ n
unfolding little
little-small zero xs h = lit< tt
little-small (suc n) [] h = one-le-pow (suc n) 256 (lit< tt)
little-small (suc n) (x ∷ xs) h = rw pow-suc (omega (arith, h 0, little-small n xs (λ i. h (suc i))))

-- bytes from index at on
pub little-part : (n at : ℕ) (xs : List ℕ) → ((i : ℕ) → get_or xs i 0 < 256) → little (take n (drop at xs)) < 256 ^ n
little-part n at xs h = little-small n (drop at xs) (λ i. rw get_or-drop (h (at + i)))

-- at most m bytes spell less than 256 ^ m
pub little-within : (m n at : ℕ) (xs : List ℕ) → ((i : ℕ) → get_or xs i 0 < 256) → n ≤ m → little (take n (drop at xs)) < 256 ^ m
little-within m n at xs h l =
    let p : 256 ^ n ≤ 256 ^ m = pow-le-pow_right {n = 256} (lit< tt) l in
    omega (arith, little-part n at xs h)

-- the extra bytes of a length, which stand behind its lead byte
pub high-small : (xs : List ℕ) (n high : ℕ) → ((i : ℕ) → get_or xs i 0 < 256) → n ≤ 3 →
    high ≡ little (take n (take (length xs - 1) (drop 1 xs))) → high < 256 ^ 3
high-small xs n high h l e =
    let whole : take (length xs - 1) (drop 1 xs) ≡ drop 1 xs = take_all (length xs - 1) (drop 1 xs) (omega (arith, length-drop 1 xs)) in
    rw (e, whole) (little-within 3 n 1 xs h l)

-- the bytes of a number spell it, at any width that holds it
pub little-bytes : (w n : ℕ) → n < 256 ^ w → little (little_bytes w n) ≡ n
unfolding little little_bytes
little-bytes zero n h = omega arith
little-bytes (suc w) n h =
    let more : 256 ^ suc w ≡ 256 ^ w * 256 = pow-suc 256 w in
    let high : little (little_bytes w (n / 256)) ≡ n / 256 = little-bytes w (n / 256) (omega arith) in
    rw high (omega arith)

-- and the number that bytes spell has those bytes
pub bytes-little : (xs : List ℕ) → ((i : ℕ) → get_or xs i 0 < 256) → little_bytes (length xs) (little xs) ≡ xs
unfolding little little_bytes
bytes-little [] h = refl
bytes-little (x ∷ xs) h =
    let low : (x + 256 * little xs) % 256 ≡ x = omega (arith, h 0) in
    let high : (x + 256 * little xs) / 256 ≡ little xs = omega (arith, h 0) in
    rw (low, high, bytes-little xs (λ i. h (suc i)))

pub bytes-long : (w n : ℕ) → length (little_bytes w n) ≡ w
unfolding little_bytes
bytes-long zero n = refl
bytes-long (suc w) n = ap suc (bytes-long w (n / 256))

-- what a loop from the last byte back has read, `rest` being the bytes that are left
pub record Spelt (xs rest : List ℕ) (value : ℕ) : Type 0 where
  pub read : List ℕ
  pub whole : rest ++ read ≡ xs
  pub is : value ≡ little read

pub spelt-none : (xs : List ℕ) → Spelt xs xs 0
unfolding little
spelt-none xs = record { read = []; whole = append-nil xs; is = refl }

pub spelt-turn : (xs rest next : List ℕ) (value b : ℕ) → Spelt xs rest value → rest ≡ next ++ (b ∷ []) → Spelt xs next (value * 256 + b)
spelt-turn xs rest next value b s e =
    record {
      read = b ∷ s.read;
      whole = sym (append_snoc next b s.read) ∙ ap (λ (ys : List ℕ). ys ++ s.read) (sym e) ∙ s.whole;
      is = rw (little-cons b s.read) (omega (arith, s.is));
    }

pub spelt-all : (xs rest : List ℕ) (value : ℕ) → Spelt xs rest value → length rest ≡ 0 → value ≡ little xs
spelt-all xs [] value s e = s.is ∙ ap little s.whole
spelt-all xs (b ∷ rest) value s e = absurd (omega arith)

-- before a turn at most 7 bytes are in the value: one more has room in 64 bits
pub spelt-room : (xs rest : List ℕ) (value : ℕ) → ((i : ℕ) → get_or xs i 0 < 256) → Spelt xs rest value → 0 < length rest → length xs ≤ 8 → value < 256 ^ 7
spelt-room xs rest value h s pos l =
    let n : length rest + length s.read ≡ length xs = sym (length-append rest s.read) ∙ ap length s.whole in
    let e : drop (length rest) xs ≡ s.read = rw (← s.whole) (drop-append_seam rest s.read) in
    rw s.is (subst (λ (ys : List ℕ). little ys < 256 ^ 7) (ap (take (length s.read)) e ∙ take_all (length s.read) s.read (omega arith)) (little-within 7 (length s.read) (length rest) xs h (omega arith)))
