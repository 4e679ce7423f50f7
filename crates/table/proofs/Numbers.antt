-- The numbering of segments: every segment has one number, every number from 10 * 37^3 on below 37^4 is a segment's, the four characters come
-- back from the number, and the order of numbers is the order of bytes. Character by character there are three kinds, and the rest is base 37.
use mathlib.Core.Path.{◌≡◌, refl, ap, sym, ◌∙◌}
use mathlib.Core.Bool.{Bool, true, false}
use mathlib.Core.Logic.{⊎_elim}
use Prim.Native.Nat.{ℕ, ◌+◌, ◌*◌, ◌/◌, ◌%◌, ◌^◌, ◌<◌, ◌≤◌}
use native.Mathlib.Omega.{arith}
use lib.Dec.{leb, ltb, eqb}
use borrow.Author.Tests.{eqb-true, leb-true, ltb-true, le-leb, lt-leb, lt-ltb, le-ltb, eq-eqb, ne_eqb}
use Rattle.pkg_length.proofs.Answers.{halves}
use Rattle.name_object.proofs.Paths.{seg-chars}
use Rattle.name_object.specs.Component.{Component, seg, lead_ok, digit_ok, char_ok, is_seg_ok}
use Rattle.table.specs.Tree.{number_of_char, number}
use Rattle.table.specs.Levels.{char_of_number}
use Rattle.table.specs.Valid.{segment_ok}
use Rattle.table.proofs.Facts.{lt-or-le}

-- a segment of a number
unfoldable pub segment_of : ℕ → Component
segment_of s = seg (char_of_number (s / 37 / 37 / 37)) (char_of_number (s / 37 / 37 % 37)) (char_of_number (s / 37 % 37)) (char_of_number (s % 37))

-- a character and its number
pub data Char (c n : ℕ) : Type 0 where
  digit : n < 10 → c ≡ n + 0x30 → Char c n
  letter : 10 ≤ n → n < 36 → c ≡ n + 0x37 → Char c n
  line : n ≡ 36 → c ≡ 0x5F → Char c n

lead_is : (c : ℕ) → lead_ok c ≡ true → Char c (number_of_char c) × (10 ≤ number_of_char c)
unfolding lead_ok number_of_char
lead_is c h = go (eqb c 0x5F) refl
  where
    go : (t : Bool) → eqb c 0x5F ≡ t → Char c (number_of_char c) × (10 ≤ number_of_char c)
    go true e = rw (eqb-true c 0x5F e) (line refl refl, omega arith)
    go false e =
        let g = halves (leb 0x41 c) (leb c 0x5A) (rw e at h) in
        let l = leb-true 0x41 c g.0 in
        let u = leb-true c 0x5A g.1 in
        rw (le-ltb c 0x3A (omega arith), lt-ltb c 0x5B (omega arith)) (letter (omega arith) (omega arith) (omega arith), omega arith)

char_is : (c : ℕ) → char_ok c ≡ true → Char c (number_of_char c)
unfolding char_ok digit_ok number_of_char
char_is c h = go (lead_ok c) refl
  where
    go : (t : Bool) → lead_ok c ≡ t → Char c (number_of_char c)
    go true e = (lead_is c e).0
    go false e =
        let g = halves (leb 0x30 c) (leb c 0x39) (rw e at h) in
        let l = leb-true 0x30 c g.0 in
        let u = leb-true c 0x39 g.1 in
        rw (lt-ltb c 0x3A (omega arith)) (digit (omega arith) (omega arith))

-- a number's character
char_of : (n : ℕ) → n < 37 → Char (char_of_number n) n
unfolding char_of_number
char_of n h = ⊎_elim (λ l. rw (lt-ltb n 10 l) (digit l refl)) (λ k. ⊎_elim (λ l. rw (le-ltb n 10 k, lt-ltb n 36 l) (letter k l refl)) (λ l. rw (le-ltb n 10 k, le-ltb n 36 l) (line (omega arith) refl)) (lt-or-le n 36)) (lt-or-le n 10)

is-lead : {c n : ℕ} → Char c n → 10 ≤ n → lead_ok c ≡ true
unfolding lead_ok
is-lead (digit l e) h = absurd (omega arith)
is-lead {c} (letter l u e) h = rw (ne_eqb c 0x5F (λ x. omega arith), le-leb 0x41 c (omega arith), le-leb c 0x5A (omega arith))
is-lead {c} (line l e) h = rw (eq-eqb c 0x5F e)

is-char : {c n : ℕ} → Char c n → char_ok c ≡ true
unfolding char_ok digit_ok lead_ok
is-char {c} (digit l e) = rw (ne_eqb c 0x5F (λ x. omega arith), lt-leb 0x41 c (omega arith), le-leb 0x30 c (omega arith), le-leb c 0x39 (omega arith))
is-char {c} {n} (letter l u e) = let k : Char c n = letter l u e in rw (is-lead k l)
is-char {c} {n} (line l e) = let k : Char c n = line l e in rw (is-lead k (omega arith))

-- two characters and their numbers stand in one order
abbrev pub Alike : ℕ → ℕ → ℕ → ℕ → Type 0
Alike x y u v = (x < y → u < v) × (x ≡ y → u ≡ v) × (y < x → v < u)

below : {c n : ℕ} → Char c n → (n < 37) × (c < 256)
below (digit l e) = omega arith
below (letter l u e) = omega arith
below (line l e) = omega arith

alike : {c d n m : ℕ} → Char c n → Char d m → Alike c d n m
alike (digit l e) (digit l' e') = omega arith
alike (digit l e) (letter l' u' e') = omega arith
alike (digit l e) (line l' e') = omega arith
alike (letter l u e) (digit l' e') = omega arith
alike (letter l u e) (letter l' u' e') = omega arith
alike (letter l u e) (line l' e') = omega arith
alike (line l e) (digit l' e') = omega arith
alike (line l e) (letter l' u' e') = omega arith
alike (line l e) (line l' e') = omega arith

one_char : {c d n : ℕ} → Char c n → Char d n → c ≡ d
one_char {c} {d} x y = ⊎_elim (λ l. absurd (omega (arith, (alike x y).0 l))) (λ k. ⊎_elim (λ l. absurd (omega (arith, (alike x y).2 l))) (λ l. omega arith) (lt-or-le d c)) (lt-or-le c d)

-- the four characters of a segment, each with its number
record Four (a b c d : ℕ) : Type 0 where
  first : Char a (number_of_char a)
  lead : 10 ≤ number_of_char a
  second : Char b (number_of_char b)
  third : Char c (number_of_char c)
  fourth : Char d (number_of_char d)

four : (a b c d : ℕ) → is_seg_ok a b c d ≡ true → Four a b c d
four a b c d h =
    let s = seg-chars a b c d h in
    record { first = (lead_is a s.0).0; lead = (lead_is a s.0).1; second = char_is b s.1; third = char_is c s.2; fourth = char_is d s.3 }

char-low : (c : ℕ) → number_of_char c < 37
unfolding number_of_char
char-low c = ⊎_elim (λ l. rw (lt-ltb c 0x3A l) (omega arith)) (λ k. ⊎_elim (λ l. rw (le-ltb c 0x3A k, lt-ltb c 0x5B l) (omega arith)) (λ l. rw (le-ltb c 0x3A k, le-ltb c 0x5B l) (omega arith)) (lt-or-le c 0x5B)) (lt-or-le c 0x3A)

-- four bytes of any kind have a number that low
pub number-low : (a b c d : ℕ) → number a b c d < 37 ^ 4
number-low a b c d = omega (arith, char-low a, char-low b, char-low c, char-low d)

pub segment-range : (s : ℕ) → segment_ok s ≡ true → (10 * 37 ^ 3 ≤ s) × (s < 37 ^ 4)
unfolding segment_ok
segment-range s h = let g = halves (leb (10 * 37 ^ 3) s) (ltb s (37 ^ 4)) h in (leb-true (10 * 37 ^ 3) s g.0, ltb-true s (37 ^ 4) g.1)

-- a segment's number is one of a segment
pub number_ok : (a b c d : ℕ) → is_seg_ok a b c d ≡ true → segment_ok (number a b c d) ≡ true
unfolding segment_ok
number_ok a b c d h =
    let f = four a b c d h in
    let l = f.lead in
    let x = below f.first in
    let y = below f.second in
    let z = below f.third in
    let w = below f.fourth in
    rw (le-leb (10 * 37 ^ 3) (number a b c d) (omega arith), lt-ltb (number a b c d) (37 ^ 4) (omega arith))

-- the characters come back from the number
pub segment-back : (a b c d : ℕ) → is_seg_ok a b c d ≡ true → segment_of (number a b c d) ≡ seg a b c d
unfolding segment_of
segment-back a b c d h =
    let f = four a b c d h in
    let x = below f.first in
    let y = below f.second in
    let z = below f.third in
    let w = below f.fourth in
    let e₁ : number a b c d / 37 / 37 / 37 ≡ number_of_char a = omega arith in
    let e₂ : number a b c d / 37 / 37 % 37 ≡ number_of_char b = omega arith in
    let e₃ : number a b c d / 37 % 37 ≡ number_of_char c = omega arith in
    let e₄ : number a b c d % 37 ≡ number_of_char d = omega arith in
    rw (e₁, e₂, e₃, e₄)
    (λ i. seg (one_char (char_of (number_of_char a) x.0) f.first i) (one_char (char_of (number_of_char b) y.0) f.second i) (one_char (char_of (number_of_char c) z.0) f.third i) (one_char (char_of (number_of_char d) w.0) f.fourth i))

-- and the number from its characters, which are a segment's
number_of : (n : ℕ) → n < 37 → number_of_char (char_of_number n) ≡ n
number_of n h = let x = char_of n h in alike-back (char_is (char_of_number n) (is-char x)) x
  where
    alike-back : {c n m : ℕ} → Char c n → Char c m → n ≡ m
    alike-back x y = (alike x y).1 refl

pub number-back : (s : ℕ) → segment_ok s ≡ true
    → (is_seg_ok (char_of_number (s / 37 / 37 / 37)) (char_of_number (s / 37 / 37 % 37)) (char_of_number (s / 37 % 37)) (char_of_number (s % 37)) ≡ true)
    × (number (char_of_number (s / 37 / 37 / 37)) (char_of_number (s / 37 / 37 % 37)) (char_of_number (s / 37 % 37)) (char_of_number (s % 37)) ≡ s)
unfolding is_seg_ok
number-back s h =
    let g = segment-range s h in
    let x = char_of (s / 37 / 37 / 37) (omega arith) in
    let y = char_of (s / 37 / 37 % 37) (omega arith) in
    let z = char_of (s / 37 % 37) (omega arith) in
    let w = char_of (s % 37) (omega arith) in (
      rw (is-lead x (omega arith), is-char y, is-char z, is-char w),
      rw (number_of (s / 37 / 37 / 37) (omega arith), number_of (s / 37 / 37 % 37) (omega arith), number_of (s / 37 % 37) (omega arith), number_of (s % 37) (omega arith)) (omega arith),
    )

-- different segments have different numbers
pub one_number : (a b c d p q r s : ℕ) → is_seg_ok a b c d ≡ true → is_seg_ok p q r s ≡ true → number a b c d ≡ number p q r s → seg a b c d ≡ seg p q r s
one_number a b c d p q r s h k e = sym (segment-back a b c d h) ∙ ap segment_of e ∙ segment-back p q r s k

-- two words of two letters stand in the order of their numbers, if their letters do
pair-alike : (x y u v b d n m : ℕ) → Alike x y u v → Alike b d n m → b < 256 → d < 256 → n < 37 → m < 37 → Alike (x * 256 + b) (y * 256 + d) (u * 37 + n) (v * 37 + m)
pair-alike x y u v b d n m f g hb hd hn hm = ⊎_elim less (λ k. ⊎_elim more (λ l. same (omega arith)) (lt-or-le y x)) (lt-or-le x y)
  where
    less : x < y → Alike (x * 256 + b) (y * 256 + d) (u * 37 + n) (v * 37 + m)
    less l = let k = f.0 l in omega arith

    more : y < x → Alike (x * 256 + b) (y * 256 + d) (u * 37 + n) (v * 37 + m)
    more l = let k = f.2 l in omega arith

    same : x ≡ y → Alike (x * 256 + b) (y * 256 + d) (u * 37 + n) (v * 37 + m)
    same e = let k = f.1 e in (λ l. omega (arith, g.0 (omega arith)), λ l. omega (arith, g.1 (omega arith)), λ l. omega (arith, g.2 (omega arith)))

-- the order of numbers is the order of bytes, the first byte highest
pub number-order : (a b c d p q r s : ℕ) → is_seg_ok a b c d ≡ true → is_seg_ok p q r s ≡ true
    → Alike (((a * 256 + b) * 256 + c) * 256 + d) (((p * 256 + q) * 256 + r) * 256 + s) (number a b c d) (number p q r s)
number-order a b c d p q r s h k =
    let f = four a b c d h in
    let g = four p q r s k in
    pair-alike _ _ _ _ _ _ _ _
    (pair-alike _ _ _ _ _ _ _ _
    (pair-alike _ _ _ _ _ _ _ _ (alike f.first g.first) (alike f.second g.second) (below f.second).1 (below g.second).1 (below f.second).0 (below g.second).0)
    (alike f.third g.third) (below f.third).1 (below g.third).1 (below f.third).0 (below g.third).0)
    (alike f.fourth g.fourth) (below f.fourth).1 (below g.fourth).1 (below f.fourth).0 (below g.fourth).0
