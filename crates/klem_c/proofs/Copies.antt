-- Loops that fill a list from its start, and the places of parts in what klem_c is lent.
use mathlib.Core.Path.{◌≡◌, refl, sym, ◌∙◌, ap}
use mathlib.Core.Bool.{Bool, true, false}
use mathlib.Core.List.{List, [], ◌∷◌, ◌++◌, map, append-nil, append_assoc}
use Prim.Native.Nat.{ℕ, suc, ◌+◌, ◌-◌, ◌<◌, ◌≤◌, ◌%◌, ◌/◌}
use native.Mathlib.Omega.{arith}
use native.Mathlib.Numerals.{add-one}
use lib.ListN.{length, get_or, set, take, drop, length-append, length-drop, length-map, get_or-map, drop_of_length-le}
use lib.Seq.{take_at, drop_at, drop-drop, drop-cons, set_at, append_snoc, take-suc, take_all, length-take-le}
use borrow.Rule.Slice.PartMut.{put_mid, Post-is}
use Rattle.std.specs.Int.{w64, to_le_bytes}
use Rattle.grammar.specs.Grammar.{cells}
use Rattle.statement.specs.Frames.{bits}
use Rattle.statement.specs.declared.frame.Frame.{Frame}
use Rattle.klem_c.specs.Result.{flag}
use Rattle.klem_c.specs.Frames.{frame_size, frame_words}

-- what is behind the loop is f of the source, and what is before it is as it was
module _ {A B : Type 0} (f : A → B) (xs : List A) (d : List B) where
  -- one more element
  pub filled-more : (j : ℕ) (z : A) (v : B) → j < length d → j < length xs → v ≡ f (get_or xs j z) →
      set (take j (map f xs) ++ drop j d) j v ≡ take (j + 1) (map f xs) ++ drop (j + 1) d
  filled-more j z v hd hs e =
      let l : length (map f xs) ≡ length xs = length-map xs f in
      rw add-one
      (ap (λ (r : List B). set (take j (map f xs) ++ r) j v) (drop-cons d j v hd)
      ∙ set_at (take j (map f xs)) (get_or d j v) (drop (suc j) d) v j (length-take-le j (map f xs) (omega arith))
      ∙ sym (append_snoc (take j (map f xs)) v (drop (suc j) d))
      ∙ ap (λ (w : B). (take j (map f xs) ++ (w ∷ [])) ++ drop (suc j) d) (e ∙ sym (get_or-map f xs j z))
      ∙ ap (λ (r : List B). r ++ drop (suc j) d) (sym (take-suc (map f xs) j (f z) (omega arith))))

  -- all of it, and what is left of the destination
  pub filled-all : (j : ℕ) → length xs ≤ j → take j (map f xs) ++ drop j d ≡ map f xs ++ drop j d
  filled-all j h = let l : length (map f xs) ≡ length xs = length-map xs f in ap (λ (r : List B). r ++ drop j d) (take_all j (map f xs) (omega arith))

  pub filled-whole : (j : ℕ) → length xs ≤ j → length d ≤ j → take j (map f xs) ++ drop j d ≡ map f xs
  filled-whole j h k = filled-all j h ∙ ap (λ (r : List B). map f xs ++ r) (drop_of_length-le d k) ∙ append-nil (map f xs)

-- the tail of a slice was lent, and came back as ys
put-tail : {A : Type 0} (a : ℕ) (xs ys : List A) → a ≤ length xs → put_mid a (length xs - a) xs ys ≡ take a xs ++ ys
put-tail {A} a xs ys h =
    ap (λ (r : List A). take a xs ++ (ys ++ r)) (Post-is a (length xs) xs h ∙ drop_of_length-le xs {i = length xs} (omega arith)) ∙ ap (λ (r : List A). take a xs ++ r) (append-nil ys)

-- the two low bytes of a number in eight
pub low-two : (n : ℕ) → take 2 (to_le_bytes w64 n) ≡ n % 256 ∷ n / 256 % 256 ∷ []
low-two n = grind arith

-- a count in two bytes, then the bytes
pub put-path : (xs ys zs : List ℕ) → length zs ≡ 2 → length xs ≡ 130 → put_mid 2 128 (zs ++ drop 2 xs) ys ≡ zs ++ ys
put-path xs ys zs z h =
    let k : length (zs ++ drop 2 xs) ≡ 130 = simp (length-append, length-drop) (omega (arith, z, h)) in
    (rw k at (put-tail 2 (zs ++ drop 2 xs) ys (omega (arith, k)))) ∙ ap (λ (r : List ℕ). r ++ ys) (take_at zs (drop 2 xs) 2 z)

-- the flags, then the numbers, then the width
pub put-frame : (ws xs ys : List ℕ) (f : Frame) (n : ℕ) → length f.set ≡ cells → length f.val ≡ cells → length ws ≡ frame_size → n ≡ bits f.width →
    xs ≡ map flag f.set ++ drop cells ws → ys ≡ f.val → set (put_mid cells cells xs ys) 30 n ≡ frame_words f
unfolding frame_words
put-frame ws xs ys f n l m h b e v =
    let k : length (map flag f.set) ≡ cells = length-map f.set flag ∙ l in
    let d : List ℕ = drop cells ws in
    let last : drop cells (drop cells (map flag f.set ++ d)) ≡ get_or ws 30 0 ∷ [] =
    ap (λ (r : List ℕ). drop cells r) (drop_at (map flag f.set) d cells k) ∙ drop-drop cells cells ws ∙ drop-cons ws 30 0 (omega (arith, h)) ∙ ap (λ (r : List ℕ). get_or ws 30 0 ∷ r) (drop_of_length-le ws {i = 31} (omega (arith, h))) in
    let parts : put_mid cells cells xs ys ≡ map flag f.set ++ (f.val ++ (get_or ws 30 0 ∷ [])) =
    ap (λ (r : List ℕ). put_mid cells cells r ys) e
    ∙ ap (λ (r : List ℕ). r ++ (ys ++ drop cells (drop cells (map flag f.set ++ d)))) (take_at (map flag f.set) d cells k)
    ∙ ap (λ (r : List ℕ). map flag f.set ++ (ys ++ r)) last
    ∙ ap (λ (r : List ℕ). map flag f.set ++ (r ++ (get_or ws 30 0 ∷ []))) v in
    ap (λ (r : List ℕ). set r 30 n) (parts ∙ sym (append_assoc (map flag f.set) f.val (get_or ws 30 0 ∷ [])))
    ∙ set_at (map flag f.set ++ f.val) (get_or ws 30 0) [] n 30 (omega (arith, length-append (map flag f.set) f.val, k, m))
    ∙ append_assoc (map flag f.set) f.val (n ∷ [])
    ∙ ap (λ (w : ℕ). map flag f.set ++ (f.val ++ (w ∷ []))) b
