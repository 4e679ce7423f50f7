-- Numbers of w bits that are worked out on 64: the low bits of a sum, or of a difference, are those of its low 64 bits.
use Rattle.std.proofs.Common.{◌≡◌, ℕ, ◌+◌, ◌-◌, ◌*◌, ◌/◌, ◌%◌, ◌^◌, ◌≤◌, sym, ap, ◌∙◌, subst, mod-lt, add-mul, one-mul, div-add-mod', arith, pow_pos}
use native.Mathlib.Nat.{mod-add-mod, add-mul-mod_self_right}
use lib.Pow.{mod-mod-pow}
use Rattle.statement.specs.declared.frame.Width.{Width}
use Rattle.statement.specs.declared.frame.Width.TheVariants.{Bits32, Bits64}
use Rattle.statement.specs.Frames.{bits, low}

-- no width has more than 64 bits
pub bits_most : (w : Width) → bits w ≤ 64
bits_most Bits32 = omega arith
bits_most Bits64 = omega arith

module _ (w : ℕ) (h : w ≤ 64) where
  low-of-64 : (n : ℕ) → n % 2 ^ 64 % 2 ^ w ≡ n % 2 ^ w
  low-of-64 n =
      let e : 64 - w + w ≡ 64 = omega arith in
      subst (λ (k : ℕ). n % 2 ^ k % 2 ^ w ≡ n % 2 ^ w) e (mod-mod-pow n (64 - w) w)

  -- r is what a less b is, on 64 bits
  low-less : (r a b : ℕ) → (r + b) % 2 ^ 64 ≡ a → r % 2 ^ w ≡ (a + (2 ^ w - low w b)) % 2 ^ w
  low-less r a b e =
      let m : ℕ = 2 ^ w in
      let x : ℕ = m - b % m in
      let over : (b / m + 1) * m ≡ b / m * m + m = add-mul (b / m) 1 m ∙ ap (λ (k : ℕ). b / m * m + k) (one-mul m) in
      let whole : r + b + x ≡ r + (b / m + 1) * m = omega (arith, over, div-add-mod' b m, mod-lt b (pow_pos w)) in
      sym (add-mul-mod_self_right r (b / m + 1) m)
      ∙ ap (λ (k : ℕ). k % m) (sym whole)
      ∙ sym (mod-add-mod (r + b) m x)
      ∙ ap (λ (k : ℕ). (k + x) % m) (sym (low-of-64 (r + b)) ∙ ap (λ (k : ℕ). k % m) e)
      ∙ mod-add-mod a m x

pub wrap-low : (n : ℕ) (w : Width) → n % 2 ^ 64 % 2 ^ bits w ≡ n % 2 ^ bits w
wrap-low n w = low-of-64 (bits w) (bits_most w) n

pub less-low : (r a b : ℕ) (w : Width) → (r + b) % 2 ^ 64 ≡ a → r % 2 ^ bits w ≡ (a + (2 ^ bits w - low (bits w) b)) % 2 ^ bits w
less-low r a b w e = low-less (bits w) (bits_most w) r a b e
