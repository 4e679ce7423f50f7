-- What stands before a NamePath: a loop over the `^`s counts them, and each byte of a prefix spells one component.
use mathlib.Core.Path.{◌≡◌, refl, sym, ◌∙◌, ap}
use mathlib.Core.Bool.{Bool, true, false, cond}
use mathlib.Core.List.{List, [], ◌∷◌}
use Prim.Native.Nat.{ℕ, zero, suc, ◌+◌, ◌≤◌, ◌<◌}
use native.Mathlib.Omega.{arith}
use lib.Dec.{eqb}
use lib.ListN.{length, get_or}
use Rattle.std.specs.List.{prefix_len}
use borrow.Author.Tests.{eq-eqb, ne_eqb, eqb-true}
use Rattle.name_object.specs.Component.{root, up, spell_one}
use Rattle.name_object.specs.Name.{carets, prefix_of}

-- the `^`s that are counted
carets-many : (xs : List ℕ) → (prefix_len (λ b. eqb b 0x5E) xs ≡ length (carets xs)) × (length (carets xs) ≤ length xs)
unfolding carets
carets-many [] = (refl, omega arith)
carets-many (x ∷ xs) = go (carets-many xs) (eqb x 0x5E)
  where
    go : (prefix_len (λ b. eqb b 0x5E) xs ≡ length (carets xs)) × (length (carets xs) ≤ length xs) → (t : Bool) → (cond t (1 + prefix_len (λ b. eqb b 0x5E) xs) 0 ≡ length (cond t (up ∷ carets xs) [])) × (length (cond t (up ∷ carets xs) []) ≤ suc (length xs))
    go k true = (omega (arith, k.0), omega (arith, k.1))
    go k false = (refl, omega arith)

pub no-root : (xs : List ℕ) → length xs ≡ 0 → get_or xs 0 0 ≡ 0x5C → ⊥
no-root [] e h = omega arith
no-root (x ∷ xs) e h = omega arith

pub prefix-root : (xs : List ℕ) → get_or xs 0 0 ≡ 0x5C → (1 ≡ length (prefix_of xs)) × (1 ≤ length xs)
unfolding prefix_of
prefix-root [] e = absurd (omega arith)
prefix-root (x ∷ xs) e = (rw (eq-eqb _ _ e), omega arith)

pub prefix-carets : (xs : List ℕ) (n : ℕ) → (get_or xs 0 0 ≡ 0x5C → ⊥) → n ≡ prefix_len (λ b. eqb b 0x5E) xs → (n ≡ length (prefix_of xs)) × (n ≤ length xs)
unfolding prefix_of
prefix-carets xs n e h = let k = carets-many xs in rw (ne_eqb _ _ e) (h ∙ k.0, omega (arith, h, k.0, k.1))

-- the bytes of a prefix are the bytes read
carets-byte : (xs : List ℕ) (i : ℕ) → i < length (carets xs) → spell_one (get_or (carets xs) i up) ≡ get_or xs i 0 ∷ 0 ∷ 0 ∷ 0 ∷ []
unfolding carets
carets-byte [] i h = absurd (omega arith)
carets-byte (x ∷ xs) i h = go (carets-byte xs) (eqb x 0x5E) refl i h
  where
    go : ((i : ℕ) → i < length (carets xs) → spell_one (get_or (carets xs) i up) ≡ get_or xs i 0 ∷ 0 ∷ 0 ∷ 0 ∷ []) →
        (t : Bool) → eqb x 0x5E ≡ t → (i : ℕ) → i < length (cond t (up ∷ carets xs) []) →
        spell_one (get_or (cond t (up ∷ carets xs) []) i up) ≡ get_or (x ∷ xs) i 0 ∷ 0 ∷ 0 ∷ 0 ∷ []
    go ih true e zero h = ap (λ (n : ℕ). n ∷ 0 ∷ 0 ∷ 0 ∷ []) (sym (eqb-true x 0x5E e))
    go ih true e (suc i) h = ih i (omega arith)
    go ih false e i h = absurd (omega arith)

pub prefix-byte : (xs : List ℕ) (i : ℕ) → i < length (prefix_of xs) → spell_one (get_or (prefix_of xs) i up) ≡ get_or xs i 0 ∷ 0 ∷ 0 ∷ 0 ∷ []
unfolding prefix_of
prefix-byte xs i h = go (eqb (get_or xs 0 0) 0x5C) refl i h
  where
    go : (t : Bool) → eqb (get_or xs 0 0) 0x5C ≡ t → (i : ℕ) → i < length (cond t (root ∷ []) (carets xs)) →
        spell_one (get_or (cond t (root ∷ []) (carets xs)) i up) ≡ get_or xs i 0 ∷ 0 ∷ 0 ∷ 0 ∷ []
    go true e zero h = ap (λ (n : ℕ). n ∷ 0 ∷ 0 ∷ 0 ∷ []) (sym (eqb-true (get_or xs 0 0) 0x5C e))
    go true e (suc i) h = absurd (omega arith)
    go false e i h = carets-byte xs i h
