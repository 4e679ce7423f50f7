-- Segments read at an offset: what each test of the code says of the definition. A segment is four characters, each given or refused in turn;
-- n segments are one segment and the n - 1 behind it.
use mathlib.Core.Path.{◌≡◌, refl, sym, ◌∙◌, ap}
use mathlib.Core.Bool.{Bool, true, false, cond}
use mathlib.Core.List.{List}
use Prim.Native.Nat.{ℕ, zero, suc, ◌+◌, ◌-◌, ◌*◌, ◌≤◌, ◌<◌}
use native.Mathlib.Omega.{arith}
use lib.Dec.{ltb, eqb}
use lib.ListN.{length, get_or}
use borrow.Author.Tests.{lt-ltb, le-ltb, ltb-true, ne_eqb, eqb-true, eqb-false}
use Rattle.pkg_length.specs.Refusal.{Answer, gives, refuses, and_then}
use Rattle.pkg_length.proofs.Answers.{refuses-not, gives_same, then-gives, then-refuses, then-then}
use Rattle.name_object.specs.Component.{Component, seg, lead_ok, char_ok}
use Rattle.name_object.specs.Name.{byte_at, char, segment, segments}
use Rattle.name_object.specs.Inside.{seg_char, segment_end, segments_end}

-- ## A byte, a character

module _ (xs : List ℕ) (p : ℕ) where
  pub byte-here : p < length xs → byte_at xs p ≡ gives (get_or xs p 0)
  unfolding byte_at
  byte-here h = rw (lt-ltb _ _ h)

  pub byte-end : length xs ≤ p → byte_at xs p ≡ refuses 1 (length xs)
  unfolding byte_at
  byte-end h = rw (le-ltb _ _ h)

  pub byte-was : (b : ℕ) → byte_at xs p ≡ gives b → (p < length xs) × (get_or xs p 0 ≡ b)
  unfolding byte_at
  byte-was b = go (ltb p (length xs)) refl
    where
      go : (t : Bool) → ltb p (length xs) ≡ t → cond t (gives (get_or xs p 0)) (refuses 1 (length xs)) ≡ gives b → (p < length xs) × (get_or xs p 0 ≡ b)
      go true e h = (ltb-true _ _ e, gives_same h)
      go false e h = refuses-not h

module _ (ok : ℕ → Bool) (xs : List ℕ) (p : ℕ) where
  pub char-here : p < length xs → ok (get_or xs p 0) ≡ true → char ok xs p ≡ gives (get_or xs p 0)
  unfolding char
  char-here h e = rw (byte-here xs p h, e)

  pub char-bad : p < length xs → ok (get_or xs p 0) ≡ false → char ok xs p ≡ refuses 6 p
  unfolding char
  char-bad h e = rw (byte-here xs p h, e)

  char-none : (n q : ℕ) → refuses n q ≡ byte_at xs p → char ok xs p ≡ refuses n q
  unfolding char
  char-none n q h = rw (← h)

  pub char-was : (b : ℕ) → char ok xs p ≡ gives b → (p < length xs) × (ok (get_or xs p 0) ≡ true) × (get_or xs p 0 ≡ b)
  unfolding char
  char-was b h =
      let t = then-gives (byte_at xs p) (λ x. cond (ok x) (gives x) (refuses 6 p)) h in
      let w = byte-was xs p t.0 t.1 in
      go w (ok t.0) refl t.2
    where
      go : {x : ℕ} → (p < length xs) × (get_or xs p 0 ≡ x) → (r : Bool) → ok x ≡ r → cond r (gives x) (refuses 6 p) ≡ gives b →
          (p < length xs) × (ok (get_or xs p 0) ≡ true) × (get_or xs p 0 ≡ b)
      go w true e h = (w.0, rw w.1 e, w.1 ∙ gives_same h)
      go w false e h = refuses-not h

-- the character that a segment at p has at k
char_of_number : List ℕ → ℕ → ℕ → Answer ℕ
char_of_number xs p zero = char lead_ok xs p
char_of_number xs p (suc k) = char char_ok xs (p + suc k)

module _ (xs : List ℕ) (p : ℕ) where
  of-here : (k : ℕ) → p + k < length xs → seg_char k (get_or xs (p + k) 0) ≡ true → char_of_number xs p k ≡ gives (get_or xs (p + k) 0)
  unfolding char_of_number seg_char
  of-here zero h e = let z : p + 0 ≡ p = omega arith in rw z (char-here lead_ok xs p (omega arith) (rw z at e))
  of-here (suc k) h e = char-here char_ok xs (p + suc k) h (rw (ne_eqb (suc k) 0 (λ z. omega arith)) at e)

  of-bad : (k : ℕ) → p + k < length xs → seg_char k (get_or xs (p + k) 0) ≡ false → char_of_number xs p k ≡ refuses 6 (p + k)
  unfolding char_of_number seg_char
  of-bad zero h e = let z : p + 0 ≡ p = omega arith in rw z (char-bad lead_ok xs p (omega arith) (rw z at e))
  of-bad (suc k) h e = char-bad char_ok xs (p + suc k) h (rw (ne_eqb (suc k) 0 (λ z. omega arith)) at e)

  of_none : (k n q : ℕ) → refuses n q ≡ byte_at xs (p + k) → char_of_number xs p k ≡ refuses n q
  unfolding char_of_number
  of_none zero n q h = let z : p + 0 ≡ p = omega arith in char-none lead_ok xs p n q (rw z at h)
  of_none (suc k) n q h = char-none char_ok xs (p + suc k) n q h

-- ## A segment

-- the first k characters of the segment at p are there
pub record Begun (xs : List ℕ) (p k : ℕ) : Type 0 where
  pub inside : p + k ≤ length xs
  pub good : (j : ℕ) → j < k → seg_char j (get_or xs (p + j) 0) ≡ true

module _ (xs : List ℕ) (p : ℕ) where
  pub begun-none : p ≤ length xs → Begun xs p 0
  begun-none h = record { inside = omega arith; good = λ j l. absurd (omega arith) }

  pub begun_more : (k : ℕ) → Begun xs p k → (x : ℕ) → gives x ≡ byte_at xs (p + k) → seg_char k x ≡ true → Begun xs p (k + 1)
  begun_more k b x h ok = record { inside = omega (arith, w.0); good = λ j l. go j l (eqb j k) refl }
    where
      w : (p + k < length xs) × (get_or xs (p + k) 0 ≡ x)
      w = byte-was xs (p + k) x (sym h)

      e : seg_char k (get_or xs (p + k) 0) ≡ true
      e = rw w.1 ok

      go : (j : ℕ) → j < k + 1 → (t : Bool) → eqb j k ≡ t → seg_char j (get_or xs (p + j) 0) ≡ true
      go j l true q = let s : j ≡ k = eqb-true j k q in rw s e
      go j l false q = b.good j (omega (arith, eqb-false j k q))

  given : (k : ℕ) → Begun xs p k → (j : ℕ) → j < k → char_of_number xs p j ≡ gives (get_or xs (p + j) 0)
  given k b j l = of-here xs p j (omega (arith, b.inside)) (b.good j l)

  -- what refuses a character refuses the segment
  stops : (k n q : ℕ) → k < 4 → Begun xs p k → char_of_number xs p k ≡ refuses n q → refuses n q ≡ segment_end xs p
  unfolding segment_end segment char_of_number
  stops zero n q l b e = rw e
  stops (suc zero) n q l b e = rw (given 1 b 0 (omega arith), e)
  stops (suc (suc zero)) n q l b e = rw (given 2 b 0 (omega arith), given 2 b 1 (omega arith), e)
  stops (suc (suc (suc zero))) n q l b e = rw (given 3 b 0 (omega arith), given 3 b 1 (omega arith), given 3 b 2 (omega arith), e)
  stops (suc (suc (suc (suc k)))) n q l b e = absurd (omega arith)

  pub seg-short : (k : ℕ) → k < 4 → Begun xs p k → (n q : ℕ) → refuses n q ≡ byte_at xs (p + k) → refuses n q ≡ segment_end xs p
  seg-short k l b n q h = stops k n q l b (of_none xs p k n q h)

  pub seg-bad : (k : ℕ) → k < 4 → Begun xs p k → (x : ℕ) → gives x ≡ byte_at xs (p + k) → seg_char k x ≡ false → refuses 6 (p + k) ≡ segment_end xs p
  seg-bad k l b x h e = let w = byte-was xs (p + k) x (sym h) in stops k 6 (p + k) l b (of-bad xs p k w.0 (rw w.1 e))

  pub seg-whole : (k : ℕ) → 4 ≤ k → Begun xs p k → gives (p + 4) ≡ segment_end xs p
  unfolding segment_end segment char_of_number
  seg-whole k l b = rw (given k b 0 (omega arith), given k b 1 (omega arith), given k b 2 (omega arith), given k b 3 (omega arith))

-- ## Segments in a row

-- a segment that was given: its four characters, which are there
pub record Was (xs : List ℕ) (p : ℕ) (c : Component) : Type 0 where
  pub inside : p + 4 ≤ length xs
  pub first : lead_ok (get_or xs p 0) ≡ true
  pub second : char_ok (get_or xs (p + 1) 0) ≡ true
  pub third : char_ok (get_or xs (p + 2) 0) ≡ true
  pub fourth : char_ok (get_or xs (p + 3) 0) ≡ true
  pub is : c ≡ seg (get_or xs p 0) (get_or xs (p + 1) 0) (get_or xs (p + 2) 0) (get_or xs (p + 3) 0)

pub seg-was : (xs : List ℕ) (p : ℕ) (c : Component) → segment xs p ≡ gives c → Was xs p c
unfolding segment
seg-was xs p x h =
    let t₁ = then-gives (char lead_ok xs p) _ h in
    let t₂ = then-gives (char char_ok xs (p + 1)) _ t₁.2 in
    let t₃ = then-gives (char char_ok xs (p + 2)) _ t₂.2 in
    let t₄ = then-gives (char char_ok xs (p + 3)) _ t₃.2 in
    let a = char-was lead_ok xs p t₁.0 t₁.1 in
    let b = char-was char_ok xs (p + 1) t₂.0 t₂.1 in
    let c = char-was char_ok xs (p + 2) t₃.0 t₃.1 in
    let d = char-was char_ok xs (p + 3) t₄.0 t₄.1 in
    record {
      inside = omega (arith, d.0);
      first = a.1;
      second = b.1;
      third = c.1;
      fourth = d.1;
      is = rw (a.2, b.2, c.2, d.2) (sym (gives_same t₄.2));
    }

-- the four characters of a segment that is there
pub seg-there : (xs : List ℕ) (p : ℕ) (c : Component) → Was xs p c → segment xs p ≡ gives c
unfolding segment
seg-there xs p x w =
    rw (
      char-here lead_ok xs p (omega (arith, w.inside)) w.first,
      char-here char_ok xs (p + 1) (omega (arith, w.inside)) w.second,
      char-here char_ok xs (p + 2) (omega (arith, w.inside)) w.third,
      char-here char_ok xs (p + 3) (omega (arith, w.inside)) w.fourth,
      w.is,
    )

-- what follows n segments at p, whatever they are
pub after : List ℕ → ℕ → ℕ → Answer ℕ → Answer ℕ
after xs p n next = and_then (segments xs p n) (λ cs. next)

module _ (xs : List ℕ) (p : ℕ) (n : ℕ) (next : Answer ℕ) where
  after-refuses : (k q : ℕ) → segment xs p ≡ refuses k q → after xs p (suc n) next ≡ refuses k q
  unfolding after segments
  after-refuses k q e = rw e

  after-gives : (c : Component) → segment xs p ≡ gives c → after xs p (suc n) next ≡ after xs (p + 4) n next
  unfolding after segments
  after-gives c e = rw e (then-then (segments xs (p + 4) n) _ _)

-- the loop over n segments from `from` on, before segment i
pub record Reached (xs : List ℕ) (from n at i : ℕ) : Type 0 where
  pub most : i ≤ n
  pub inside : at ≤ length xs
  pub here : at ≡ from + 4 * i
  pub left : after xs at (n - i) (gives (from + 4 * n)) ≡ segments_end xs from n

module _ (xs : List ℕ) (from n : ℕ) where
  pub reached-none : from ≤ length xs → Reached xs from n from 0
  unfolding segments_end after
  reached-none h = let e : n - 0 ≡ n = omega arith in record { most = omega arith; inside = h; here = omega arith; left = rw e }

  pub reached-more : (at i next : ℕ) → Reached xs from n at i → i < n → gives next ≡ segment_end xs at → Reached xs from n next (i + 1)
  unfolding segment_end
  reached-more at i next r l h =
      let t = then-gives (segment xs at) _ (sym h) in
      let w = seg-was xs at t.0 t.1 in
      let e : at + 4 ≡ next = gives_same t.2 in
      let s : n - i ≡ suc (n - (i + 1)) = omega arith in
      record {
        most = omega arith;
        inside = omega (arith, w.inside);
        here = omega (arith, r.here);
        left = rw (← e) (sym (after-gives xs at (n - (i + 1)) _ t.0 t.1) ∙ rw s at r.left);
      }

  pub reached-stop : (at i k q : ℕ) → Reached xs from n at i → i < n → refuses k q ≡ segment_end xs at → refuses k q ≡ segments_end xs from n
  unfolding segment_end
  reached-stop at i k q r l h =
      let s : n - i ≡ suc (n - (i + 1)) = omega arith in
      sym (after-refuses xs at (n - (i + 1)) _ k q (then-refuses (segment xs at) _ (sym h))) ∙ rw s at r.left

  pub reached-end : (at i : ℕ) → Reached xs from n at i → n ≤ i → gives at ≡ segments_end xs from n
  unfolding after segments
  reached-end at i r l =
      let s : n - i ≡ 0 = omega arith in
      let e : at ≡ from + 4 * n = omega (arith, r.here, r.most) in
      ap gives e ∙ rw s at r.left
