-- The turns of the loops that fill a table, in plain variables, and the parts of an image's checks.
use mathlib.Core.Path.{◌≡◌, refl, ap, ap₂, sym, subst, ◌∙◌}
use mathlib.Core.Bool.{Bool, true}
use lib.Dec.{eqb}
use mathlib.Core.List.{List, [], ◌∷◌, ◌++◌, append_assoc, append-nil, map, map-append}
use Prim.Native.Nat.{ℕ, zero, suc, ◌+◌, ◌-◌, ◌*◌, ◌<◌, ◌≤◌}
use native.Mathlib.Omega.{arith}
use native.Mathlib.Numerals.{add-one}
use lib.ListN.{length, get_or, take, drop, set, length-append, length-map, length-drop, take-append-drop}
use lib.Seq.{take-suc-set, drop-set-lt, drop-drop, take_at, drop_at, length-take-le}
use borrow.Author.Tests.{leb-true, ltb-true}
use borrow.Rule.Slice.PartMut.{put_mid}
use Rattle.pkg_length.specs.Refusal.{Answer, gives, refuses, and_then}
use Rattle.table.specs.Limits.{Limits}
use Rattle.table.specs.Layout.{pack, bind_word}
use Rattle.image.specs.Bits.{number_at}
use Rattle.image.specs.Format.{Format, first_edition, header_bits, level_bits, bindings_place, objects_place, image_bits}
use Rattle.image.specs.Reader.{first, header_checks, levels_checks, bound_checks, object_checks, end_checks, rest_checks, body_checks, image_checks, root_seen, levels_in, bindings_in, objects_in, depth_at, type_at, chars_at, segment_number, handle_at, count_at, after, word_of_level, level_words, bindings_at, bound_at, objects_at, all_words}
use Rattle.image.specs.Inside.{Walk}
use Rattle.image.proofs.Checks.{first-append, head-holds, one_left, minus-none}
use Rattle.image.proofs.Rooms.{length-bindings_at}

-- Words written one behind the other.

pub drop-later : (ws vs : List ℕ) (k j : ℕ) → drop k ws ≡ drop k vs → k ≤ j → drop j ws ≡ drop j vs
drop-later ws vs k j e h =
    let s : k + (j - k) ≡ j = omega arith in
    ap (λ (i : ℕ). drop i ws) (sym s) ∙ sym (drop-drop (j - k) k ws) ∙ ap (drop (j - k)) e ∙ drop-drop (j - k) k vs ∙ ap (λ (i : ℕ). drop i vs) s

module _ (ws vs : List ℕ) (k w : ℕ) (h : k < length ws) where
  pub put_next : (R T : List ℕ) → take k ws ++ (w ∷ R) ≡ T → take (k + 1) (set ws k w) ++ R ≡ T
  put_next R T e = rw (add-one k, take-suc-set ws k w h) (append_assoc (take k ws) (w ∷ []) R ∙ e)

  pub kept_next : drop k ws ≡ drop k vs → drop (k + 1) (set ws k w) ≡ drop (k + 1) vs
  kept_next e = drop-set-lt (k + 1) ws k w (omega arith) ∙ drop-later ws vs k (k + 1) e (omega arith)

pub finished : (ws vs T : List ℕ) (k n : ℕ) → k ≡ n → take k ws ++ [] ≡ T → drop k ws ≡ drop k vs → ws ≡ T ++ drop n vs
finished ws vs T k n h e d = sym (take-append-drop k ws) ∙ ap₂ {C = List ℕ} ◌++◌ (sym (append-nil (take k ws)) ∙ e) (d ∙ ap (λ (i : ℕ). drop i vs) h)

-- Words of things that stand one behind the other, each so many bits wide.

unfoldable pub steps : (ℕ → ℕ) → ℕ → ℕ → ℕ → List ℕ
steps g width zero q = []
steps g width (suc n) q = g q ∷ steps g width n (q + width)

pub steps-are : (g : ℕ → ℕ) (width : ℕ) (ws : List ℕ) (n q : ℕ) → length ws ≡ n → ((k : ℕ) → k < n → get_or ws k 0 ≡ g (q + k * width)) → ws ≡ steps g width n q
unfolding steps
steps-are g width [] zero q l h = refl
steps-are g width [] (suc n) q l h = absurd (omega arith)
steps-are g width (w ∷ ws) zero q l h = absurd (omega arith)
steps-are g width (w ∷ ws) (suc n) q l h =
    ap₂ {C = List ℕ} ◌∷◌ (h 0 (omega arith) ∙ ap g (here q width)) (steps-are g width ws n (q + width) (omega arith) (λ k j. h (suc k) (omega arith) ∙ ap g (next q width k)))
  where
    here : (q width : ℕ) → q + 0 * width ≡ q
    here q width = omega arith

    next : (q width k : ℕ) → q + suc k * width ≡ q + width + k * width
    next q width k = omega arith

pub steps-objects : (bs : List Bool) (n p : ℕ) → steps (number_at bs 64) 64 n p ≡ objects_at bs n p
unfolding steps objects_at
steps-objects bs zero p = refl
steps-objects bs (suc n) p = rw (steps-objects bs n (p + 64))

pub steps-bindings : (bs : List Bool) (n q : ℕ) → steps (λ p. bind_word (record { segment = segment_number (number_at bs 32 p); handle = handle_at first_edition bs p })) 42 n q ≡ map bind_word (bindings_at first_edition bs n q)
unfolding steps bindings_at
steps-bindings bs zero q = refl
steps-bindings bs (suc n) q = rw (steps-bindings bs n (q + 42))

pub part-long : (ws : List ℕ) (m c : ℕ) → m + c ≤ length ws → length (take (m + c - m) (drop m ws)) ≡ c
part-long ws m c h =
    let e : m + c - m ≡ c = omega arith in
    length-take-le (m + c - m) (drop m ws) (rw (length-drop m ws) (omega arith)) ∙ e

-- a part of words, behind the first m
pub part-put : (ws part A : List ℕ) (m c : ℕ) → part ≡ A → put_mid m (m + c - m) ws part ≡ take m ws ++ (A ++ drop (m + c) ws)
part-put ws part A m c e =
    ap (λ (l : List ℕ). put_mid m (m + c - m) ws l) e
    ∙ ap (λ (l : List ℕ). take m ws ++ (A ++ l)) (drop-drop (m + c - m) m ws ∙ ap (λ (j : ℕ). drop j ws) (both m c))
  where
    both : (m c : ℕ) → m + (m + c - m) ≡ m + c
    both m c = omega arith

-- Levels: one more of them.

pub levels-more : (f : Format) (bs : List Bool) (n k p p' q q' w : ℕ) → k < n → w ≡ pack (suc (depth_at f bs p)) (type_at f bs p) (count_at bs q) (segment_number (chars_at f bs p))
    → p' ≡ p + level_bits f → q' ≡ after f bs q → w ∷ level_words f bs (n - (k + 1)) p' q' ≡ level_words f bs (n - k) p q
unfolding level_words word_of_level
levels-more f bs n k p p' q q' w h e d g = rw (one_left n k h, e, d, g)

pub walk_step : (f : Format) (bs : List Bool) (n k q rest : ℕ) → k < n → Walk f bs (n - k) q rest → Walk f bs (suc (n - (k + 1))) q rest
walk_step f bs n k q rest h w = subst (λ (j : ℕ). Walk f bs j q rest) (one_left n k h) w

-- a level's bindings behind the first m words
module _ (f : Format) (bs : List Bool) (n k q m : ℕ) (ws new : List ℕ) (h : k < n) (c : ℕ) (hc : c ≡ count_at bs q) (room : m + c ≤ length ws)
    (e : new ≡ take m ws ++ (map bind_word (bindings_at f bs c (q + 10)) ++ drop (m + c) ws)) where
  abbrev A : List ℕ
  A = map bind_word (bindings_at f bs c (q + 10))

  front : length (take m ws ++ A) ≡ m + c
  front = rw (length-append (take m ws) A, length-take-le m ws (omega arith), length-map (bindings_at f bs c (q + 10)) bind_word, length-bindings_at f bs c (q + 10))

  whole : new ≡ (take m ws ++ A) ++ drop (m + c) ws
  whole = e ∙ sym (append_assoc (take m ws) A (drop (m + c) ws))

  pub own-kept : drop (m + c) new ≡ drop (m + c) ws
  own-kept = rw whole (drop_at (take m ws ++ A) (drop (m + c) ws) (m + c) front)

  pub own-long : length new ≡ length ws
  own-long = rw (whole, length-append (take m ws ++ A) (drop (m + c) ws), front, length-drop (m + c) ws) (omega arith)

  pub own-next : (q' : ℕ) (T : List ℕ) → q' ≡ after f bs q → take m ws ++ map bind_word (bound_at f bs (n - k) q) ≡ T
      → take (m + c) new ++ map bind_word (bound_at f bs (n - (k + 1)) q') ≡ T
  unfolding bound_at
  own-next q' T d g =
      rw (whole, take_at (take m ws ++ A) (drop (m + c) ws) (m + c) front, append_assoc (take m ws) A (map bind_word (bound_at f bs (n - (k + 1)) q')))
      (ap (λ (l : List ℕ). take m ws ++ l)
      (rw (d, hc, ← map-append bind_word (bindings_at f bs (count_at bs q) (q + 10)) (bound_at f bs (n - (k + 1)) (after f bs q))))
      ∙ ap (λ (j : ℕ). take m ws ++ map bind_word (bound_at f bs j q)) (sym (one_left n k h)) ∙ g)

-- The parts of the checks.

module _ (f : Format) (bs : List Bool) (n total made : ℕ) where
  rest-parts : first (rest_checks f bs n total made) ≡ and_then (first (object_checks bs made (objects_place f n total))) (λ _. first (end_checks bs (image_bits f n total made)))
  unfolding rest_checks
  rest-parts = first-append (object_checks bs made (objects_place f n total)) _

  pub rest-refused : {m p : ℕ} → first (object_checks bs made (objects_place f n total)) ≡ refuses m p → refuses m p ≡ first (rest_checks f bs n total made)
  rest-refused e = sym (rest-parts ∙ rw e)

  pub rest-on : first (object_checks bs made (objects_place f n total)) ≡ gives tt → first (rest_checks f bs n total made) ≡ first (end_checks bs (image_bits f n total made))
  rest-on e = rest-parts ∙ rw e

  body-parts : first (body_checks f bs n total made)
      ≡ and_then (first (levels_checks f bs n header_bits 0 (root_seen f))) (λ _. and_then (first (bound_checks f bs made n header_bits (bindings_place f n) 0 total)) (λ _. first (rest_checks f bs n total made)))
  unfolding body_checks
  body-parts =
      first-append (levels_checks f bs n header_bits 0 (root_seen f)) _
      ∙ ap (λ (a : Answer (Unit {0})). and_then (first (levels_checks f bs n header_bits 0 (root_seen f))) (λ _. a)) (first-append (bound_checks f bs made n header_bits (bindings_place f n) 0 total) _)

  pub body-levels : {m p : ℕ} → first (levels_checks f bs n header_bits 0 (root_seen f)) ≡ refuses m p → refuses m p ≡ first (body_checks f bs n total made)
  body-levels e = sym (body-parts ∙ rw e)

  module _ (l : first (levels_checks f bs n header_bits 0 (root_seen f)) ≡ gives tt) where
    pub body-bound : {m p : ℕ} → first (bound_checks f bs made n header_bits (bindings_place f n) 0 total) ≡ refuses m p → refuses m p ≡ first (body_checks f bs n total made)
    body-bound e = sym (body-parts ∙ rw (l, e))

    pub body-rest : first (bound_checks f bs made n header_bits (bindings_place f n) 0 total) ≡ gives tt → first (body_checks f bs n total made) ≡ first (rest_checks f bs n total made)
    body-rest e = body-parts ∙ rw (l, e)

module _ (f : Format) (m : Limits) (bs : List Bool) where
  pub image-parts : first (image_checks f m bs) ≡ and_then (first (header_checks f m bs)) (λ _. first (body_checks f bs (levels_in bs) (bindings_in bs) (objects_in bs)))
  unfolding image_checks
  image-parts = first-append (header_checks f m bs) _

  pub record HeaderHolds : Type 0 where
    pub edition : eqb (number_at bs 4 0) f.edition ≡ true
    pub levels : levels_in bs < m.levels
    pub bindings : bindings_in bs ≤ m.bindings
    pub objects : objects_in bs ≤ m.objects
    pub room : 32 ≤ length bs

  pub header-holds : first (header_checks f m bs) ≡ gives tt → HeaderHolds
  unfolding header_checks
  header-holds h =
      let a = head-holds _ _ h in
      let b = head-holds _ _ a.1 in
      let c = head-holds _ _ b.1 in
      let d = head-holds _ _ c.1 in
      let e = head-holds _ _ d.1 in
      let g = head-holds _ _ e.1 in
      let i = head-holds _ _ g.1 in
      let j = head-holds _ _ i.1 in
      record { edition = b.0; levels = ltb-true _ _ d.0; bindings = leb-true _ _ g.0; objects = leb-true _ _ j.0; room = leb-true _ _ i.0 }

-- The root's word, before the others.
pub root-first : (bs : List Bool) (n : ℕ) (ws : List ℕ) (own w at : ℕ) → 0 < length ws → w ≡ pack 1 0 own 0 → own ≡ count_at bs (bindings_place first_edition n) → at ≡ bindings_place first_edition n + 10 + own * 42
    → take (0 + 1) (set ws 0 w) ++ level_words first_edition bs (n - 0) (32 + 0 * 41) at ≡ all_words first_edition bs n
unfolding all_words
root-first bs n [] own v at h f e d = absurd (omega arith)
root-first bs n (w ∷ ws) own v at h f e d =
    ap₂ {C = List ℕ} ◌∷◌ (f ∙ ap (λ (c : ℕ). pack 1 0 c 0) e)
    (rw (d, e) (ap (λ (j : ℕ). level_words first_edition bs j 32 (after first_edition bs (bindings_place first_edition n))) (minus-none n)))

pub after_is : (bs : List Bool) (q c : ℕ) → c ≡ count_at bs q → q + 10 + c * 42 ≡ after first_edition bs q
after_is bs q c e = rw e

pub level-word-none : (ws : List ℕ) (bs : List Bool) (p q : ℕ) → ws ++ level_words first_edition bs 0 p q ≡ ws ++ []
unfolding level_words
level-word-none ws bs p q = refl

pub bound-none : (ws : List ℕ) (bs : List Bool) (q : ℕ) → ws ++ map bind_word (bound_at first_edition bs 0 q) ≡ ws ++ []
unfolding bound_at
bound-none ws bs q = refl

pub whole_length : (ws T : List ℕ) (m total : ℕ) → take m ws ++ [] ≡ T → length T ≡ total → m ≤ length ws → m ≡ total
whole_length ws T m total e l h = sym (length-take-le m ws h) ∙ ap length (sym (append-nil (take m ws)) ∙ e) ∙ l
