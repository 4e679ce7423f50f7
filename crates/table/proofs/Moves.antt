-- Room made in, and taken out of, a list of fixed length: what a turn of each loop does.
use mathlib.Core.Path.{◌≡◌, refl, ap, sym, ◌∙◌}
use mathlib.Core.List.{List, [], ◌∷◌, ◌++◌, append_assoc, append-nil, map, map-append}
use Prim.Native.Nat.{ℕ, zero, suc, ◌+◌, ◌-◌, ◌<◌, ◌≤◌}
use native.Mathlib.Nat.{not-suc-le-zero, le_of_suc-le-suc}
use native.Mathlib.Numerals.{add-one}
use native.Mathlib.Omega.{arith}
use lib.ListN.{length, take, drop, get_or, set, replicate, drop_of_length-le, length-drop, length-append, length-replicate}
use lib.Seq.{take_all, drop-set-lt, take-suc-set, drop-cons, set_split, length-take-le}
use Rattle.table.specs.Inside.{push, closed}
use borrow.Rule.Slice.PartMut.{put_mid}
use Rattle.std.proofs.Math.Seq.{paste}
use Rattle.std.proofs.lemmas.Slice.{put_mid-paste}
use Rattle.std.proofs.lemmas.List.Edits.{paste_all, paste-paste, length-paste}
use mathlib.Core.Bool.{Bool, true}
use borrow.Author.Tests.{eq-eqb, ne_eqb}
use Rattle.table.specs.Tree.{Binding, Forest, none, level, bound}
use Rattle.table.specs.Layout.{pack, flat, bind_word}
use Rattle.table.specs.Valid.{rising}
use Rattle.table.proofs.Shape.{Valid, binding-tests}
use Rattle.table.proofs.Numbers.{segment-range}

-- no word of a level or a binding is 0
abbrev pub AllPos : List ℕ → Type 0
AllPos [] = Unit {0}
AllPos (x ∷ xs) = (0 < x) × AllPos xs

pos-append : (xs ys : List ℕ) → AllPos xs → AllPos ys → AllPos (xs ++ ys)
pos-append [] ys h k = k
pos-append (x ∷ xs) ys h k = (h.0, pos-append xs ys h.1 k)

pub pos-at : (xs : List ℕ) (i : ℕ) → AllPos xs → i < length xs → 0 < get_or xs i 0
pos-at [] i h l = absurd (not-suc-le-zero l)
pos-at (x ∷ xs) zero h l = h.0
pos-at (x ∷ xs) (suc i) h l = pos-at xs i h.1 (le_of_suc-le-suc l)

pos-pack : (r t n s : ℕ) → 0 < r → 0 < pack r t n s
unfolding pack
pos-pack r t n s h = omega arith

module _ (limit : ℕ) (live : ℕ → Bool) where
  pub pos-flat : (f : Forest) (r lo : ℕ) → Valid limit live r lo f → AllPos (flat r f)
  unfolding flat
  pos-flat none r lo v = tt
  pos-flat (level s t b kids next) r lo v =
      (pos-pack r t (length b) s v.0.ranked, pos-append (flat (suc r) kids) (flat r next) (pos-flat kids (suc r) 0 v.1) (pos-flat next r (suc s) v.2))

  pos-binds : (lo : ℕ) (b : List Binding) → rising live lo b ≡ true → AllPos (map bind_word b)
  pos-binds lo [] h = tt
  pos-binds lo (x ∷ b) h =
      let t = binding-tests live lo x b h in
      (omega (arith, segment-range x.segment t.named), pos-binds (suc x.segment) b t.later)

  pub pos-bound : (f : Forest) (r lo : ℕ) → Valid limit live r lo f → AllPos (map bind_word (bound f))
  unfolding bound
  pos-bound none r lo v = tt
  pos-bound (level s t b kids next) r lo v =
      rw (map-append bind_word b (bound kids ++ bound next), map-append bind_word (bound kids) (bound next))
      (pos-append (map bind_word b) (map bind_word (bound kids) ++ map bind_word (bound next)) (pos-binds 0 b v.0.ordered)
      (pos-append (map bind_word (bound kids)) (map bind_word (bound next)) (pos-bound kids (suc r) 0 v.1) (pos-bound next r (suc s) v.2)))

pos-later : (xs ys : List ℕ) → AllPos (xs ++ ys) → AllPos ys
pos-later [] ys h = h
pos-later (x ∷ xs) ys h = pos-later xs ys h.1

-- the word goes in front of what stands, into the first spare word
push-pad : (w : ℕ) (xs : List ℕ) (n : ℕ) → AllPos xs → push w (xs ++ replicate (suc n) 0) ≡ w ∷ (xs ++ replicate n 0)
unfolding push
push-pad w [] n h = refl
push-pad w (x ∷ xs) n h = rw (ne_eqb x 0 (λ e. omega (arith, h.0))) (ap (λ (l : List ℕ). w ∷ l) (push-pad x xs n h.1))

pub put-pad : (w : ℕ) (xs ys : List ℕ) (n : ℕ) → AllPos (xs ++ ys) → push w (ys ++ replicate (suc n) 0) ≡ w ∷ (ys ++ replicate n 0)
put-pad w xs ys n h = push-pad w ys n (pos-later xs ys h)

-- a turn of the loop that makes room
module _ (i c : ℕ) (xs : List ℕ) (h : i < length xs) where
  pub push-turn : (get_or xs i 0 ≡ 0 → ⊥) → take (i + 1) (set xs i c) ++ push (get_or xs i 0) (drop (i + 1) (set xs i c)) ≡ take i xs ++ push c (drop i xs)
  unfolding push
  push-turn n =
      rw (
        add-one i,
        take-suc-set xs i c h,
        drop-set-lt (suc i) xs i c (omega arith),
        append_assoc (take i xs) (c ∷ []) (push (get_or xs i 0) (drop (suc i) xs)),
        drop-cons xs i 0 h,
        ne_eqb (get_or xs i 0) 0 n,
      )

  pub push-stop : get_or xs i 0 ≡ 0 → set xs i c ≡ take i xs ++ push c (drop i xs)
  unfolding push
  push-stop e = rw (drop-cons xs i 0 h, eq-eqb (get_or xs i 0) 0 e) (set_split xs i c h)

pub push-done : (i c : ℕ) (xs : List ℕ) → length xs ≤ i → take i xs ++ push c (drop i xs) ≡ xs
unfolding push
push-done i c xs h = rw (take_all i xs h, drop_of_length-le xs h, append-nil)

-- what stands behind the gap comes to its start, and zeros are written over the rest
pub gap-closed : (xs : List ℕ) (a e : ℕ) → a ≤ e → e ≤ length xs → (ys zs : List ℕ) → ys ≡ paste xs a (drop e xs) (length xs - e)
    → zs ≡ replicate (length (take (length ys - (length xs - (e - a))) (drop (length xs - (e - a)) ys))) 0
    → put_mid (length xs - (e - a)) (length ys - (length xs - (e - a))) ys zs ≡ closed a e xs
unfolding closed
gap-closed xs a e h k ys zs p q =
    put_mid-paste (length xs - (e - a)) (length ys - (length xs - (e - a))) ys zs (replicate (e - a) 0) (e - a) zeros (omega (arith, long)) (sym (length-replicate (e - a) 0))
    ∙ (λ i. paste (p i) (kept i) (replicate (e - a) 0) (e - a))
    ∙ paste-paste xs a (drop e xs) (replicate (e - a) 0) (length xs - e) (e - a) (omega (arith, length-drop e xs)) (sym (length-replicate (e - a) 0)) (omega arith)
    ∙ paste_all xs a (drop e xs ++ replicate (e - a) 0) (length xs - e + (e - a)) (omega (arith, length-append (drop e xs) (replicate (e - a) 0), length-drop e xs, length-replicate {A = ℕ} (e - a) 0))
    ∙ ap (λ (l : List ℕ). take a xs ++ ((drop e xs ++ replicate (e - a) 0) ++ l)) (drop_of_length-le xs (omega arith))
    ∙ ap (λ (l : List ℕ). take a xs ++ l) (append-nil (drop e xs ++ replicate (e - a) 0))
  where
    long : length ys ≡ length xs
    long = ap length p ∙ length-paste xs a (drop e xs) (length xs - e) (omega arith) (omega (arith, length-drop e xs))

    kept : length xs - (e - a) ≡ a + (length xs - e)
    kept = omega arith

    zeros : zs ≡ replicate (e - a) 0
    zeros = q ∙ ap (λ (n : ℕ). replicate n 0) (omega (arith, long, length-take-le (length ys - (length xs - (e - a))) (drop (length xs - (e - a)) ys) (omega (arith, length-drop (length xs - (e - a)) ys)), length-drop (length xs - (e - a)) ys))
