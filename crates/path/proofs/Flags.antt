-- The tests of a path, by the first byte of its components; and a path of one component.
use mathlib.Core.Path.{◌≡◌, refl, sym, ◌∙◌, ap}
use mathlib.Core.Bool.{true, false, not, ◌&&◌, ◌||◌}
use mathlib.Core.List.{List, [], ◌∷◌}
use Prim.Native.Nat.{ℕ, zero, suc, ◌+◌, ◌*◌, ◌≤◌, ◌<◌}
use native.Mathlib.Omega.{arith}
use lib.Dec.{eqb}
use lib.ListN.{length, get_or, drop, drop_of_length-le}
use borrow.Author.Tests.{eqb-true, eq-eqb, ne_eqb}
use Rattle.pkg_length.specs.Refusal.{gives, refuses}
use Rattle.name_object.specs.Component.{Component, seg, is_seg_ok, spell_one}
use Rattle.name_object.specs.Memory.{name_of, component_of, components, pushed, path_of_name}
use Rattle.name_object.specs.declared.AmlName.{AmlName}
use Rattle.name_object.proofs.Memory.{push-one}
use Rattle.name_object.proofs.Paths.{by_kind}
use Rattle.path.specs.Normal.{absolute, is_normal_path, one_segment, top, segment_path}
use Rattle.path.proofs.Walks.{path-next}

-- ## Tests of the first component, at every count

abs-of : (n : ℕ) (bs : List ℕ) → (not (eqb n 0) && eqb (get_or bs 0 0) 0x5C) ≡ absolute (components n bs)
unfolding components
abs-of zero bs = refl
abs-of (suc n) bs =
    rw (ne_eqb (suc n) 0 (λ e. omega arith)) (by_kind _ _ _ _ (λ x. eqb (get_or bs 0 0) 0x5C ≡ absolute (x ∷ components n (drop 4 bs))) (λ e. e) (λ n u. n) (λ n u. n))

one_of : (n : ℕ) (bs : List ℕ) → (eqb n 1 && not (eqb (get_or bs 0 0) 0x5C) && not (eqb (get_or bs 0 0) 0x5E)) ≡ one_segment (components n bs)
unfolding components
one_of zero bs = refl
one_of (suc zero) bs =
    by_kind _ _ _ _ (λ x. (not (eqb (get_or bs 0 0) 0x5C) && not (eqb (get_or bs 0 0) 0x5E)) ≡ one_segment (x ∷ [])) (λ e. rw e) (λ n e. rw (n, e)) (λ n m. rw (n, m))
one_of (suc (suc n)) bs =
    rw (ne_eqb (suc (suc n)) 1 (λ e. omega arith))
    (by_kind _ _ _ _ (λ x. false ≡ one_segment (x ∷ components (suc n) (drop 4 bs))) (λ e. refl) (λ n e. refl) (λ n m. refl))

top_of : (n : ℕ) (bs : List ℕ) → (eqb n 0 || (eqb n 1 && eqb (get_or bs 0 0) 0x5C)) ≡ top (components n bs)
unfolding components
top_of zero bs = refl
top_of (suc zero) bs = by_kind _ _ _ _ (λ x. eqb (get_or bs 0 0) 0x5C ≡ top (x ∷ [])) (λ e. e) (λ n u. n) (λ n u. n)
top_of (suc (suc n)) bs =
    rw (ne_eqb (suc (suc n)) 0 (λ e. omega arith), ne_eqb (suc (suc n)) 1 (λ e. omega arith))
    (by_kind _ _ _ _ (λ x. false ≡ top (x ∷ components (suc n) (drop 4 bs))) (λ e. refl) (λ n e. refl) (λ n m. refl))

module _ (name : AmlName) where
  pub rooted-is : (not (eqb name.count 0) && eqb (get_or name.bytes 0 0) 0x5C) ≡ absolute (path_of_name name)
  unfolding path_of_name
  rooted-is = abs-of name.count name.bytes

  pub one-is : (eqb name.count 1 && not (eqb (get_or name.bytes 0 0) 0x5C) && not (eqb (get_or name.bytes 0 0) 0x5E)) ≡ one_segment (path_of_name name)
  unfolding path_of_name
  one-is = one_of name.count name.bytes

  pub top-is : (eqb name.count 0 || (eqb name.count 1 && eqb (get_or name.bytes 0 0) 0x5C)) ≡ top (path_of_name name)
  unfolding path_of_name
  top-is = top_of name.count name.bytes

-- ## No prefix in any component

plain_of : (a b c d : ℕ) (cs : List Component) → is_normal_path (component_of a b c d ∷ cs) ≡ (not (eqb a 0x5E) && is_normal_path cs)
plain_of a b c d cs =
    by_kind a b c d (λ x. is_normal_path (x ∷ cs) ≡ (not (eqb a 0x5E) && is_normal_path cs)) (λ e. rw (ne_eqb a 0x5E (λ u. omega (arith, eqb-true a 0x5C e)))) (λ n e. rw e) (λ n m. rw m)

module _ (name : AmlName) (i : ℕ) (h : i < name.count) where
  next-plain : is_normal_path (drop i (path_of_name name)) ≡ (not (eqb (get_or name.bytes (4 * i) 0) 0x5E) && is_normal_path (drop (suc i) (path_of_name name)))
  next-plain =
      ap is_normal_path (path-next name i h)
      ∙ plain_of (get_or name.bytes (4 * i) 0) (get_or name.bytes (4 * i + 1) 0) (get_or name.bytes (4 * i + 2) 0) (get_or name.bytes (4 * i + 3) 0) (drop (suc i) (path_of_name name))

  pub plain-stop : get_or name.bytes (4 * i) 0 ≡ 0x5E → false ≡ is_normal_path (drop i (path_of_name name))
  plain-stop e = sym (next-plain ∙ rw (eq-eqb _ _ e))

  pub plain_turn : (get_or name.bytes (4 * i) 0 ≡ 0x5E → ⊥) → is_normal_path (drop (i + 1) (path_of_name name)) ≡ is_normal_path (drop i (path_of_name name))
  plain_turn n = let s : i + 1 ≡ suc i = omega arith in rw s (sym (next-plain ∙ rw (ne_eqb _ _ n)))

pub plain_end : (cs : List Component) (i : ℕ) → length cs ≤ i → true ≡ is_normal_path (drop i cs)
plain_end cs i h = rw (drop_of_length-le cs h)

-- ## One component is pushed on the empty path

module _ (limit : ℕ) where
  pub push-first : (r e : AmlName) (x : Component) (a b c d : ℕ) → 0 < limit → spell_one x ≡ a ∷ b ∷ c ∷ d ∷ [] → r ≡ pushed e a b c d → e ≡ name_of limit [] →
      r ≡ name_of limit (x ∷ [])
  push-first r e x a b c d l k p q = p ∙ ap (λ (n : AmlName). pushed n a b c d) q ∙ push-one limit [] x a b c d l k

  pub count_none : (n : AmlName) → n ≡ name_of limit [] → n.count ≡ 0
  unfolding name_of
  count_none n e = ap (λ (m : AmlName). m.count) e

pub seg-good : (bs : List ℕ) → is_seg_ok (get_or bs 0 0) (get_or bs 1 0) (get_or bs 2 0) (get_or bs 3 0) ≡ true → gives (seg (get_or bs 0 0) (get_or bs 1 0) (get_or bs 2 0) (get_or bs 3 0) ∷ []) ≡ segment_path bs
unfolding segment_path
seg-good bs h = rw h

pub seg-bad : (bs : List ℕ) → is_seg_ok (get_or bs 0 0) (get_or bs 1 0) (get_or bs 2 0) (get_or bs 3 0) ≡ false → refuses 26 0 ≡ segment_path bs
unfolding segment_path
seg-bad bs h = rw h
