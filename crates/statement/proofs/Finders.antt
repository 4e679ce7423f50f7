-- The greatest and the least set bit, and the zero counts that find them. A bit is above the greatest where the number is below its power of two, and below
-- the least where halving the number loses nothing; so each count ends at the bit that the definition finds. All of it is over the width.
use Rattle.std.proofs.Common.{◌≡◌, ℕ, zero, suc, ◌+◌, ◌-◌, ◌/◌, ◌%◌, ◌^◌, ◌<◌, ◌≤◌, Bool, true, false, cond, eqb, ltb, sym, refl, ap, ◌∙◌, subst, lt_of_lt_of_le, mod-lt, zero-lt-suc, div-lt_iff_lt-mul, one-mul, pow-suc, div-one, arith, pow_pos, pow_mono, ltb-false, ltb-true}
use native.Mathlib.Nat.{div-eq_of_lt, div-eq_of_lt-le, div-div-eq-div-mul, pow-succ'}
use lib.Pow.{mod-mod-pow, field}
use lib.Count.{count_leading_zeros, count_trailing_zeros, under, leading_top}
use Rattle.statement.specs.Frames.{low}
use Rattle.statement.specs.Meaning.{is_set, greatest, least, or_else}

-- ## Searching below a bound

module _ (p : ℕ → Bool) where
  none-greatest : (w : ℕ) → ((k : ℕ) → k < w → p k ≡ false) → greatest p w ≡ 0
  unfolding greatest
  none-greatest zero h = refl
  none-greatest (suc w) h = rw (h w (omega arith)) (none-greatest w (λ k l. h k (omega arith)))

  none-least : (w : ℕ) → ((k : ℕ) → k < w → p k ≡ false) → least p w ≡ 0
  unfolding least
  none-least zero h = refl
  none-least (suc w) h = rw (none-least w (λ k l. h k (omega arith)), h w (omega arith))

  greatest-is : (w j : ℕ) → j < w → p j ≡ true → ((k : ℕ) → j < k → k < w → p k ≡ false) → greatest p w ≡ suc j
  unfolding greatest
  greatest-is zero j l e h = absurd (omega arith)
  greatest-is (suc w) j l e h = go (ltb j w) refl λ d. greatest-is w j d e (λ k x y. h k x (omega arith))
    where
      go : (b : Bool) → ltb j w ≡ b → (j < w → greatest p w ≡ suc j) → cond (p w) (suc w) (greatest p w) ≡ suc j
      go true q f = let d = ltb-true j w q in rw (h w d (omega arith)) (f d)
      go false q f = let s : j ≡ w = omega (arith, ltb-false j w q) in rw (← s, e)

  least-is : (w j : ℕ) → j < w → p j ≡ true → ((k : ℕ) → k < j → p k ≡ false) → least p w ≡ suc j
  unfolding least
  least-is zero j l e h = absurd (omega arith)
  least-is (suc w) j l e h = go (ltb j w) refl λ d. least-is w j d e h
    where
      go : (b : Bool) → ltb j w ≡ b → (j < w → least p w ≡ suc j) → or_else (least p w) (cond (p w) (suc w) 0) ≡ suc j
      go true q f = rw (f (ltb-true j w q))
      go false q f = let s : j ≡ w = omega (arith, ltb-false j w q) in rw (← s, none-least j h, e)

-- what holds below the bound decides both
module _ (p q : ℕ → Bool) where
  same-greatest : (w : ℕ) → ((k : ℕ) → k < w → p k ≡ q k) → greatest p w ≡ greatest q w
  unfolding greatest
  same-greatest zero h = refl
  same-greatest (suc w) h = rw (h w (omega arith), same-greatest w (λ k l. h k (omega arith)))

  same-least : (w : ℕ) → ((k : ℕ) → k < w → p k ≡ q k) → least p w ≡ least q w
  unfolding least
  same-least zero h = refl
  same-least (suc w) h = rw (h w (omega arith), same-least w (λ k l. h k (omega arith)))

-- ## Bits

-- the bits below the width are those of the low bits
low_bit : (n w k : ℕ) → k < w → is_set n k ≡ is_set (low w n) k
low_bit n w k l =
    let e : w - k + k ≡ w = omega arith in
    let o : w - k - 1 + 1 ≡ w - k = omega arith in
    let f : low w n / 2 ^ k ≡ n / 2 ^ k % 2 ^ (w - k) = subst (λ (x : ℕ). n % 2 ^ x / 2 ^ k ≡ n / 2 ^ k % 2 ^ (w - k)) e (field n (w - k) k) in
    let g : n / 2 ^ k % 2 ^ (w - k) % 2 ≡ n / 2 ^ k % 2 = subst (λ (x : ℕ). n / 2 ^ k % 2 ^ x % 2 ≡ n / 2 ^ k % 2) o (mod-mod-pow (n / 2 ^ k) (w - k - 1) 1) in
    ap (λ (x : ℕ). eqb x 1) (sym g ∙ ap (λ (x : ℕ). x % 2) (sym f))

clear_above : (m k : ℕ) → m < 2 ^ k → is_set m k ≡ false
clear_above m k h = rw (div-eq_of_lt h)

set-top : (m j : ℕ) → 2 ^ j ≤ m → m < 2 ^ suc j → is_set m j ≡ true
set-top m j h l =
    let d : m / 2 ^ j ≡ 1 = div-eq_of_lt-le (2 ^ j) (omega (arith, one-mul (2 ^ j))) (omega (arith, pow-succ' 2 j, l)) in
    rw d

-- a bit further up is a bit of the half
half-bit : (m k : ℕ) → is_set m (suc k) ≡ is_set (m / 2) k
half-bit m k = ap (λ (x : ℕ). eqb (x % 2) 1) (ap (λ (x : ℕ). m / x) (pow-succ' 2 k) ∙ sym (div-div-eq-div-mul m 2 (2 ^ k)))

-- ## The counts

-- all but the zeros above the greatest set bit
pub left_is : (d w m : ℕ) → w ≤ d → 0 < m → m < 2 ^ w → greatest (is_set m) w ≡ d - count_leading_zeros d m
left_is d w m h z l =
    let (j, e, at, over) = leading_top d m z (lt_of_lt_of_le l (pow_mono h)) in
    let inside : j < w = below j at in
    greatest-is (is_set m) w j inside (set-top m j at over) (λ k x y. clear_above m k (lt_of_lt_of_le over (pow_mono x))) ∙ sym (omega arith)
  where
    below : (j : ℕ) → 2 ^ j ≤ m → j < w
    below j a = go (ltb j w) refl
      where
        go : (b : Bool) → ltb j w ≡ b → j < w
        go true q = ltb-true j w q
        go false q = absurd (omega (arith, a, l, pow_mono (ltb-false j w q)))

-- the zeros below the least set bit
record Least (d m : ℕ) : Type 0 where
  pub is-set : is_set m (count_trailing_zeros d m) ≡ true
  pub below : (k : ℕ) → k < count_trailing_zeros d m → is_set m k ≡ false

half-less : (d m : ℕ) → m < 2 ^ suc d → m / 2 < 2 ^ d
half-less d m l = (div-lt_iff_lt-mul (zero-lt-suc 1)).1 (subst (λ (x : ℕ). m < x) (pow-suc 2 d) l)

trailing : (d m : ℕ) → 0 < m → m < 2 ^ d → Least d m
unfolding count_trailing_zeros
trailing zero m z l = absurd (omega arith)
trailing (suc d) m z l = go (m % 2) refl λ some. trailing d (m / 2) some (half-less d m l)
  where
    even : m % 2 ≡ 0 → (k : ℕ) → k < suc (count_trailing_zeros d (m / 2)) → ((j : ℕ) → j < count_trailing_zeros d (m / 2) → is_set (m / 2) j ≡ false) → is_set m k ≡ false
    even e zero x h = rw (div-one m, e)
    even e (suc k) x h = half-bit m k ∙ h k (omega arith)

    go : (r : ℕ) → m % 2 ≡ r → (0 < m / 2 → Least d (m / 2)) → Least (suc d) m
    go zero e f =
        let h = f (omega arith) in
        let t : under (m % 2) (count_trailing_zeros d (m / 2)) ≡ suc (count_trailing_zeros d (m / 2)) = rw e in
        record { is-set = rw t (half-bit m (count_trailing_zeros d (m / 2)) ∙ h.is-set); below = λ k x. even e k (rw t at x) h.below }
    go (suc r) e f =
        let o : m % 2 ≡ 1 = omega arith in
        let t : under (m % 2) (count_trailing_zeros d (m / 2)) ≡ 0 = rw e in
        record { is-set = rw t (rw (div-one m, o)); below = λ k x. absurd (omega (arith, rw t at x)) }

-- one more than they are
pub right_is : (d w m : ℕ) → w ≤ d → 0 < m → m < 2 ^ w → least (is_set m) w ≡ count_trailing_zeros d m + 1
right_is d w m h z l =
    let t = trailing d m z (lt_of_lt_of_le l (pow_mono h)) in
    least-is (is_set m) w (count_trailing_zeros d m) (inside (count_trailing_zeros d m) t.is-set) t.is-set t.below ∙ sym (omega arith)
  where
    inside : (j : ℕ) → is_set m j ≡ true → j < w
    inside j e = go (ltb j w) refl
      where
        go : (b : Bool) → ltb j w ≡ b → j < w
        go true q = ltb-true j w q
        go false q = absurd (let f : false ≡ true = sym (clear_above m j (lt_of_lt_of_le l (pow_mono (ltb-false j w q)))) ∙ e in let y : ◌≡◌ {A = ℕ} 0 1 = cc in omega arith)

-- ## As the code finds them: among the low bits m, 0 where none is set

no-bit : (k : ℕ) → is_set 0 k ≡ false
no-bit k = clear_above 0 k (pow_pos k)

module _ (n w m : ℕ) (e : m ≡ low w n) where
  left-of : greatest (is_set n) w ≡ greatest (is_set m) w
  left-of = same-greatest (is_set n) (is_set (low w n)) w (low_bit n w) ∙ ap (λ (x : ℕ). greatest (is_set x) w) (sym e)

  right_of : least (is_set n) w ≡ least (is_set m) w
  right_of = same-least (is_set n) (is_set (low w n)) w (low_bit n w) ∙ ap (λ (x : ℕ). least (is_set x) w) (sym e)

  pub left-none : m ≡ 0 → 0 ≡ greatest (is_set n) w
  left-none z = sym (left-of ∙ ap (λ (x : ℕ). greatest (is_set x) w) z ∙ none-greatest (is_set 0) w (λ k l. no-bit k))

  pub right-none : m ≡ 0 → 0 ≡ least (is_set n) w
  right-none z = sym (right_of ∙ ap (λ (x : ℕ). least (is_set x) w) z ∙ none-least (is_set 0) w (λ k l. no-bit k))

  module _ (d : ℕ) (h : w ≤ d) (some : m ≡ 0 → ⊥) where
    within : m < 2 ^ w
    within = subst (λ (x : ℕ). x < 2 ^ w) (sym e) (mod-lt n (pow_pos w))

    pub left-found : d - count_leading_zeros d m ≡ greatest (is_set n) w
    left-found = sym (left-of ∙ left_is d w m h (omega arith) within)

    pub right-found : count_trailing_zeros d m + 1 ≡ least (is_set n) w
    right-found = sym (right_of ∙ right_is d w m h (omega arith) within)
