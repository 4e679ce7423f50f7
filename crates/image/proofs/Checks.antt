-- What each test answers, in plain variables: the checks before it hold, and it holds or does not.
use mathlib.Core.Path.{◌≡◌, refl, ap, sym, ◌∙◌}
use mathlib.Core.Bool.{Bool, true, false, cond, not, ◌&&◌, ◌||◌}
use mathlib.Core.List.{List, [], ◌∷◌, ◌++◌}
use Prim.Native.Nat.{ℕ, zero, suc, ◌+◌, ◌-◌, ◌*◌, ◌/◌, ◌%◌, ◌^◌, ◌<◌, ◌≤◌}
use native.Mathlib.Omega.{arith}
use lib.Dec.{leb, ltb, eqb}
use lib.ListN.{length}
use borrow.Author.Tests.{le-leb, lt-leb, leb-true, lt-ltb, le-ltb, ltb-true}
use Rattle.pkg_length.specs.Refusal.{Answer, gives, refuses, and_then}
use Rattle.pkg_length.proofs.Answers.{gives_same, then-gives, then-refuses, refuses-not, refuses-as, halves}
use Rattle.table.proofs.Numbers.{number-low}
use Rattle.image.specs.declared.test.Seen.{Seen}
use Rattle.image.specs.Bits.{bits_in, number_at, bytes_for}
use Rattle.image.specs.Format.{Format, level_bits, binding_bits}
use Rattle.image.specs.Reader.{Check, check, first, fits, segment_number, segment_checks, depth_at, chars_at, level_checks, levels_checks, seen, handle_at, binding_checks, bindings_checks, count_at, count_checks, own_checks, bound_checks, after, object_checks, end_checks}
use Rattle.image.proofs.Fields.{length-bits_in}

-- the first of two lists of checks
one-check : (b : Bool) (cs ys : List Check) (n p : ℕ) → first (cs ++ ys) ≡ and_then (first cs) (λ _. first ys)
    → cond b (first (cs ++ ys)) (refuses n p) ≡ and_then (cond b (first cs) (refuses n p)) (λ _. first ys)
one-check true cs ys n p e = e
one-check false cs ys n p e = refl

pub first-append : (xs ys : List Check) → first (xs ++ ys) ≡ and_then (first xs) (λ _. first ys)
unfolding first
first-append [] ys = refl
first-append (c ∷ cs) ys = one-check c.holds cs ys c.refusal c.place (first-append cs ys)

-- a test's answer, and what the checks say
pub refused-is : {A : Type 0} (a : Answer (Unit {0})) (v : A) {n p : ℕ} → refuses n p ≡ and_then a (λ _. gives v) → a ≡ refuses n p
refused-is a v e = then-refuses a (λ _. v) (sym e)

pub fine-arm : {A : Type 0} (a : Answer (Unit {0})) (v s : A) → gives s ≡ and_then a (λ _. gives v) → (a ≡ gives tt) × (s ≡ v)
fine-arm a v s e = let x = then-gives a (λ _. gives v) (sym e) in (x.1, sym (gives_same x.2))

-- a field that is not there, and one that is
pub lack : {A B : Type 0} {b : Bool} (v : A) {n p k q : ℕ} {X : Answer B} → refuses k q ≡ cond b (gives v) (refuses n p) → (b ≡ false → refuses n p ≡ X) → refuses k q ≡ X
lack {b = true} v h f = refuses-not h
lack {b = false} v h f = refuses-as h ∙ f refl

pub has : {A : Type 0} {b : Bool} {v s : A} (n p : ℕ) → gives s ≡ cond b (gives v) (refuses n p) → (b ≡ true) × (s ≡ v)
has {b = true} n p h = (refl, gives_same h)
has {b = false} n p h = refuses-not (sym h)

pub room : (bytes : List ℕ) (p w : ℕ) → leb (p + w) (length (bits_in bytes)) ≡ true → p + w ≤ 8 * length bytes
room bytes p w h = omega (arith, leb-true (p + w) (length (bits_in bytes)) h, length-bits_in bytes)

-- one level more
module _ (f : Format) (bs : List Bool) (n p before : ℕ) (low : List ℕ) where
  pub levels-step : first (levels_checks f bs (suc n) p before low)
      ≡ and_then (first (level_checks f bs p before low)) (λ _. first (levels_checks f bs n (p + level_bits f) (depth_at f bs p) (seen low (depth_at f bs p) (segment_number (chars_at f bs p)))))
  unfolding levels_checks
  levels-step = first-append (level_checks f bs p before low) _

module _ (f : Format) (bs : List Bool) (made q lo : ℕ) where
  ends : List Check
  ends = fits bs f.handle_bits (q + 32) ∷ check (ltb (handle_at f bs q) made) 42 (q + 32) ∷ []

  parts : first (binding_checks f bs made q lo) ≡ and_then (first (segment_checks bs q lo)) (λ _. first ends)
  unfolding binding_checks ends
  parts = first-append (segment_checks bs q lo) ends

  pub binding-refused : {A : Type 0} (v : A) {n p : ℕ} → first (segment_checks bs q lo) ≡ refuses n p → refuses n p ≡ and_then (first (binding_checks f bs made q lo)) (λ _. gives v)
  binding-refused v e = rw (parts, e)

  module _ {A : Type 0} (v : A) (e : first (segment_checks bs q lo) ≡ gives tt) where
    pub binding-short : leb (q + 32 + f.handle_bits) (length bs) ≡ false → refuses 32 (q + 32) ≡ and_then (first (binding_checks f bs made q lo)) (λ _. gives v)
    unfolding first ends
    binding-short h = rw (parts, e, h)

    pub binding-handle : leb (q + 32 + f.handle_bits) (length bs) ≡ true → made ≤ handle_at f bs q → refuses 42 (q + 32) ≡ and_then (first (binding_checks f bs made q lo)) (λ _. gives v)
    unfolding first ends
    binding-handle h g = rw (parts, e, h, le-ltb (handle_at f bs q) made g)

    pub binding-fine : leb (q + 32 + f.handle_bits) (length bs) ≡ true → handle_at f bs q < made → gives v ≡ and_then (first (binding_checks f bs made q lo)) (λ _. gives v)
    unfolding first ends
    binding-fine h g = rw (parts, e, h, lt-ltb (handle_at f bs q) made g)

  pub bindings-step : (n : ℕ) → first (bindings_checks f bs made (suc n) q lo)
      ≡ and_then (first (binding_checks f bs made q lo)) (λ _. first (bindings_checks f bs made n (q + binding_bits f) (segment_number (number_at bs 32 q) + 1)))
  unfolding bindings_checks
  bindings-step n = first-append (binding_checks f bs made q lo) _

third : (w x : Bool) (n rest : ℕ) (z : Bool) (q : ℕ)
    → ◌≡◌ {A = Answer (Unit {0})} (cond w (cond x (cond (leb n rest) (cond z (gives tt) (refuses 41 q)) (refuses 40 q)) (refuses 39 q)) (refuses 32 q)) (gives tt) → n ≤ rest
third true true n rest z q h = held (leb n rest) refl h
  where
    held : (y : Bool) → leb n rest ≡ y → ◌≡◌ {A = Answer (Unit {0})} (cond y (cond z (gives tt) (refuses 41 q)) (refuses 40 q)) (gives tt) → n ≤ rest
    held true e h = leb-true n rest e
    held false e h = refuses-not h
third true false n rest z q h = refuses-not h
third false x n rest z q h = refuses-not h

-- a level's count and bindings
module _ (f : Format) (bs : List Bool) (made : ℕ) (last : Bool) (q d rest : ℕ) where
  own-parts : first (own_checks f bs made last q d rest) ≡ and_then (first (count_checks f bs last q d rest)) (λ _. first (bindings_checks f bs made (count_at bs q) (q + 10) 0))
  unfolding own_checks
  own-parts = first-append (count_checks f bs last q d rest) _

  pub own-count : {A : Type 0} (v : A) {n p : ℕ} → first (count_checks f bs last q d rest) ≡ refuses n p → refuses n p ≡ and_then (first (own_checks f bs made last q d rest)) (λ _. gives v)
  own-count v e = rw (own-parts, e)

  pub own_on : first (count_checks f bs last q d rest) ≡ gives tt → first (own_checks f bs made last q d rest) ≡ first (bindings_checks f bs made (count_at bs q) (q + 10) 0)
  own_on e = rw (own-parts, e)

  pub own-holds : first (own_checks f bs made last q d rest) ≡ gives tt → (first (count_checks f bs last q d rest) ≡ gives tt) × (first (bindings_checks f bs made (count_at bs q) (q + 10) 0) ≡ gives tt)
  own-holds h = let x = then-gives (first (count_checks f bs last q d rest)) (λ _. first (bindings_checks f bs made (count_at bs q) (q + 10) 0)) (sym own-parts ∙ h) in (x.1, x.2)

  pub count_low : first (count_checks f bs last q d rest) ≡ gives tt → count_at bs q ≤ rest
  unfolding first count_checks
  count_low h = third (leb (q + 10) (length bs)) (not (eqb d f.deepest) || eqb (count_at bs q) 0) (count_at bs q) rest (not last || leb rest (count_at bs q)) q h

pub own-low : (f : Format) (bs : List Bool) (made : ℕ) (last : Bool) (q d rest : ℕ) → first (own_checks f bs made last q d rest) ≡ gives tt → count_at bs q ≤ rest
own-low f bs made last q d rest h = count_low f bs made last q d rest (own-holds f bs made last q d rest h).0

pub bound-last : (f : Format) (bs : List Bool) (made p q d rest : ℕ) → first (bound_checks f bs made zero p q d rest) ≡ first (own_checks f bs made true q d rest)
unfolding bound_checks
bound-last f bs made p q d rest = refl

pub bound-step : (f : Format) (bs : List Bool) (made n p q d rest : ℕ) → first (bound_checks f bs made (suc n) p q d rest)
    ≡ and_then (first (own_checks f bs made false q d rest)) (λ _. first (bound_checks f bs made n (p + level_bits f) (after f bs q) (depth_at f bs p) (rest - count_at bs q)))
unfolding bound_checks
bound-step f bs made n p q d rest = first-append (own_checks f bs made false q d rest) _

-- objects
module _ (bs : List Bool) (n p : ℕ) where
  pub objects-short : leb (p + 64) (length bs) ≡ false → first (object_checks bs (suc n) p) ≡ refuses 32 p
  unfolding first object_checks
  objects-short e = rw e

  pub objects-step : leb (p + 64) (length bs) ≡ true → first (object_checks bs (suc n) p) ≡ first (object_checks bs n (p + 64))
  unfolding first object_checks
  objects-step e = rw e

-- the end
module _ (bs : List Bool) (p : ℕ) where
  pub end-spare : eqb (number_at bs (8 * bytes_for p - p) p) 0 ≡ false → first (end_checks bs p) ≡ refuses 43 p
  unfolding first end_checks
  end-spare e = rw e

  pub end-left : eqb (number_at bs (8 * bytes_for p - p) p) 0 ≡ true → 8 * bytes_for p < length bs → first (end_checks bs p) ≡ refuses 44 (8 * bytes_for p)
  unfolding first end_checks
  end-left e h = rw (e, lt-leb (length bs) (8 * bytes_for p) h)

  pub end-fine : eqb (number_at bs (8 * bytes_for p - p) p) 0 ≡ true → length bs ≤ 8 * bytes_for p → first (end_checks bs p) ≡ gives tt
  unfolding first end_checks
  end-fine e h = rw (e, le-leb (length bs) (8 * bytes_for p) h)

-- Checks that all hold.

pub head-holds : (c : Check) (cs : List Check) → first (c ∷ cs) ≡ gives tt → (c.holds ≡ true) × (first cs ≡ gives tt)
unfolding first
head-holds c cs h = go c.holds refl h
  where
    go : (b : Bool) → c.holds ≡ b → ◌≡◌ {A = Answer (Unit {0})} (cond b (first cs) (refuses c.refusal c.place)) (gives tt) → (c.holds ≡ true) × (first cs ≡ gives tt)
    go true e h = (e, h)
    go false e h = refuses-not h

pub both_first : (xs ys : List Check) → first (xs ++ ys) ≡ gives tt → (first xs ≡ gives tt) × (first ys ≡ gives tt)
both_first xs ys h = let x = then-gives (first xs) (λ _. first ys) (sym (first-append xs ys) ∙ h) in (x.1, x.2)

pub one_left : (n k : ℕ) → k < n → n - k ≡ suc (n - (k + 1))
one_left n k h = omega arith

pub segment-number-low : (v : ℕ) → segment_number v < 37 ^ 4
unfolding segment_number
segment-number-low v = number-low (v / 2 ^ 24) (v / 2 ^ 16 % 256) (v / 2 ^ 8 % 256) (v % 256)

-- the turns of the tests' loops
module _ (f : Format) (bs : List Bool) (n k p p' before : ℕ) (low : List ℕ) (h : k < n) where
  pub levels-refused : {m q : ℕ} → first (level_checks f bs p before low) ≡ refuses m q → refuses m q ≡ first (levels_checks f bs (n - k) p before low)
  levels-refused e = sym (ap (λ (j : ℕ). first (levels_checks f bs j p before low)) (one_left n k h) ∙ levels-step f bs (n - (k + 1)) p before low ∙ rw e)

  pub levels-next : first (level_checks f bs p before low) ≡ gives tt → p' ≡ p + level_bits f → (l : Seen) → l ≡ record { depth = depth_at f bs p; segment = segment_number (chars_at f bs p) }
      → first (levels_checks f bs (n - (k + 1)) p' l.depth (seen low l.depth l.segment)) ≡ first (levels_checks f bs (n - k) p before low)
  levels-next e d l g = sym (ap (λ (j : ℕ). first (levels_checks f bs j p before low)) (one_left n k h) ∙ levels-step f bs (n - (k + 1)) p before low ∙ rw (e, d, g))

pub level-deep : (f : Format) (bs : List Bool) (p before : ℕ) (low : List ℕ) → first (level_checks f bs p before low) ≡ gives tt → (0 < depth_at f bs p) × (depth_at f bs p ≤ f.deepest) × (depth_at f bs p ≤ before + 1)
unfolding level_checks
level-deep f bs p before low h =
    let d = (head-holds _ _ (head-holds _ _ h).1).0 in
    let x = halves (ltb 0 (depth_at f bs p) && leb (depth_at f bs p) f.deepest) (leb (depth_at f bs p) (before + 1)) d in
    let y = halves (ltb 0 (depth_at f bs p)) (leb (depth_at f bs p) f.deepest) x.0 in
    (ltb-true _ _ y.0, leb-true _ _ y.1, leb-true _ _ x.1)

module _ (f : Format) (bs : List Bool) (made n k q q' lo : ℕ) (h : k < n) where
  pub bindings-refused : {m p : ℕ} → first (binding_checks f bs made q lo) ≡ refuses m p → refuses m p ≡ first (bindings_checks f bs made (n - k) q lo)
  bindings-refused e = sym (ap (λ (j : ℕ). first (bindings_checks f bs made j q lo)) (one_left n k h) ∙ bindings-step f bs made q lo (n - (k + 1)) ∙ rw e)

  pub bindings-next : first (binding_checks f bs made q lo) ≡ gives tt → q' ≡ q + binding_bits f → (s : ℕ) → s ≡ segment_number (number_at bs 32 q)
      → first (bindings_checks f bs made (n - (k + 1)) q' (s + 1)) ≡ first (bindings_checks f bs made (n - k) q lo)
  bindings-next e d s g = sym (ap (λ (j : ℕ). first (bindings_checks f bs made j q lo)) (one_left n k h) ∙ bindings-step f bs made q lo (n - (k + 1)) ∙ rw (e, d, g))

module _ (f : Format) (bs : List Bool) (made n k p q d rest : ℕ) where
  pub bound-ended : k ≡ n → first (bound_checks f bs made (n - k) p q d rest) ≡ first (own_checks f bs made true q d rest)
  bound-ended e = ap (λ (j : ℕ). first (bound_checks f bs made j p q d rest)) (none n k e) ∙ bound-last f bs made p q d rest
    where
      none : (n k : ℕ) → k ≡ n → n - k ≡ 0
      none n k e = omega arith

  pub bound-on : k < n → first (bound_checks f bs made (n - k) p q d rest)
      ≡ and_then (first (own_checks f bs made false q d rest)) (λ _. first (bound_checks f bs made (n - (k + 1)) (p + level_bits f) (after f bs q) (depth_at f bs p) (rest - count_at bs q)))
  bound-on h = ap (λ (j : ℕ). first (bound_checks f bs made j p q d rest)) (one_left n k h) ∙ bound-step f bs made (n - (k + 1)) p q d rest

  module _ (h : k < n) where
    pub bound-next : first (own_checks f bs made false q d rest) ≡ gives tt → (c : ℕ) → c ≡ count_at bs q → (e : ℕ) → e ≡ depth_at f bs p
        → (p' q' : ℕ) → p' ≡ p + level_bits f → q' ≡ q + 10 + c * binding_bits f
        → first (bound_checks f bs made (n - (k + 1)) p' q' e (rest - c)) ≡ first (bound_checks f bs made (n - k) p q d rest)
    bound-next o c g e i p' q' u v = sym (bound-on h ∙ rw (o, u, v, g, i))

    pub bound-refused : {m j : ℕ} → first (own_checks f bs made false q d rest) ≡ refuses m j → refuses m j ≡ first (bound_checks f bs made (n - k) p q d rest)
    bound-refused e = sym (bound-on h ∙ rw e)

-- nothing to test
pub levels-none : (f : Format) (bs : List Bool) (p before : ℕ) (low : List ℕ) → first (levels_checks f bs zero p before low) ≡ gives tt
unfolding first levels_checks
levels-none f bs p before low = refl

pub bindings-none : (f : Format) (bs : List Bool) (made q lo : ℕ) → first (bindings_checks f bs made zero q lo) ≡ gives tt
unfolding first bindings_checks
bindings-none f bs made q lo = refl

pub objects-none : (bs : List Bool) (p : ℕ) → first (object_checks bs zero p) ≡ gives tt
unfolding first object_checks
objects-none bs p = refl

pub minus-none : (n : ℕ) → n - 0 ≡ n
minus-none n = omega arith
