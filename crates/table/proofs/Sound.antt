-- Words that the pass takes are what a valid forest is written as.
use mathlib.Core.Path.{◌≡◌, refl, ap, ap₂, sym, subst, ◌∙◌}
use mathlib.Core.Bool.{Bool, true, false}
use mathlib.Core.List.{List, [], ◌∷◌, ◌++◌, append_assoc, map, map-append}
use mathlib.Core.Logic.{⊎_elim}
use Prim.Native.Nat.{ℕ, zero, suc, ◌+◌, ◌-◌, ◌<◌, ◌≤◌}
use native.Mathlib.Omega.{arith}
use native.Mathlib.Nat.{zero-add, suc-add, eq-or-lt_of_le}
use native.Mathlib.Numerals.{add-one}
use lib.Dec.{eqb}
use lib.ListN.{length, take, drop, get_or, set, replicate, length-set, take-append-drop}
use lib.Seq.{get_or-set_same, get_or-set_other}
use borrow.Author.Tests.{eqb-true, eqb-false}
use Rattle.name_object.specs.Memory.{all_zero}
use Rattle.pkg_length.proofs.Answers.{halves}
use Rattle.table.specs.Tree.{Binding, Forest, none, level, bound}
use Rattle.table.specs.Layout.{pack, rank_of, type_of, count_of, seg_of, bind_word, binding_of, flat}
use Rattle.table.specs.Memory.{siblings}
use Rattle.table.specs.Inside.{noted, scan}
use Rattle.table.proofs.Facts.{lt-or-le}
use Rattle.table.proofs.Words.{pack-unpack, words_back, map-take, map-drop}
use Rattle.table.proofs.Shape.{Valid}
use Rattle.table.proofs.Decode.{deeper, here, above}
use Rattle.table.proofs.Scan.{Passes, scan-zero, scan-true, taken}

-- the siblings of rank r to come, with the bindings as words
unfoldable pub sibs : ℕ → List ℕ → List ℕ → Forest
sibs r ws bs = siblings r ws (map binding_of bs)

module _ (r w : ℕ) (ws bs : List ℕ) where
  sibs-deeper : r < rank_of w → sibs r (w ∷ ws) bs ≡ sibs r ws (drop (count_of w) bs)
  unfolding sibs
  sibs-deeper h = rw (map-drop binding_of (count_of w) bs) (deeper r w ws (map binding_of bs) h)

  sibs-here : rank_of w ≡ r
      → sibs r (w ∷ ws) bs ≡ level (seg_of w) (type_of w) (map binding_of (take (count_of w) bs)) (sibs (suc r) ws (drop (count_of w) bs)) (sibs r ws (drop (count_of w) bs))
  unfolding sibs
  sibs-here h = rw (map-drop binding_of (count_of w) bs, map-take binding_of (count_of w) bs) (here r w ws (map binding_of bs) h)

  sibs-above : rank_of w < r → sibs r (w ∷ ws) bs ≡ none
  unfolding sibs
  sibs-above h = above r w ws (map binding_of bs) h

-- the siblings of ranks n down to 1 that are yet to come, written out
unfoldable pub unwind : ℕ → List ℕ → List ℕ → List ℕ
unwind zero ws bs = []
unwind (suc n) ws bs = flat (suc n) (sibs (suc n) ws bs) ++ unwind n ws bs

unfoldable pub unwind_b : ℕ → List ℕ → List ℕ → List Binding
unwind_b zero ws bs = []
unwind_b (suc n) ws bs = bound (sibs (suc n) ws bs) ++ unwind_b n ws bs

pub record Good (limit : ℕ) (live : ℕ → Bool) (p : ℕ) (low ws bs : List ℕ) : Type 0 where
  pub spare : ℕ
  pub words : ws ≡ unwind (suc p) ws bs ++ replicate spare 0
  pub spare_b : ℕ
  pub binds : bs ≡ map bind_word (unwind_b (suc p) ws bs) ++ replicate spare_b 0
  pub valid : (e : ℕ) → 0 < e → e < p + 2 → Valid limit live e (get_or low e 0) (sibs e ws bs)

pack-at : (w r : ℕ) → rank_of w ≡ r → pack r (type_of w) (count_of w) (seg_of w) ≡ w
pack-at w r e = subst (λ (x : ℕ). pack x (type_of w) (count_of w) (seg_of w) ≡ w) e (pack-unpack w)

-- at the end of the words
unwind-nil : (n : ℕ) (bs : List ℕ) → unwind n [] bs ≡ []
unfolding unwind sibs siblings flat
unwind-nil zero bs = refl
unwind-nil (suc n) bs = unwind-nil n bs

unwind_b-nil : (n : ℕ) (bs : List ℕ) → unwind_b n [] bs ≡ []
unfolding unwind_b sibs siblings bound
unwind_b-nil zero bs = refl
unwind_b-nil (suc n) bs = unwind_b-nil n bs

-- ranks above the next record's have no siblings to come
module _ (w : ℕ) (ws bs : List ℕ) where
  unwind-above : (k m : ℕ) → rank_of w < m + 1 → unwind (k + m) (w ∷ ws) bs ≡ unwind m (w ∷ ws) bs
  unfolding unwind flat
  unwind-above zero m h = rw (zero-add m)
  unwind-above (suc k) m h = rw (suc-add k m, sibs-above (suc (k + m)) w ws bs (omega arith)) (unwind-above k m h)

  unwind_b-above : (k m : ℕ) → rank_of w < m + 1 → unwind_b (k + m) (w ∷ ws) bs ≡ unwind_b m (w ∷ ws) bs
  unfolding unwind_b bound
  unwind_b-above zero m h = rw (zero-add m)
  unwind_b-above (suc k) m h = rw (suc-add k m, sibs-above (suc (k + m)) w ws bs (omega arith)) (unwind_b-above k m h)

  -- ranks below it are as if it were not there
  unwind-deeper : (m : ℕ) → m < rank_of w → unwind m (w ∷ ws) bs ≡ unwind m ws (drop (count_of w) bs)
  unfolding unwind
  unwind-deeper zero h = refl
  unwind-deeper (suc m) h = rw (sibs-deeper (suc m) w ws bs h, unwind-deeper m (omega arith))

  unwind_b-deeper : (m : ℕ) → m < rank_of w → unwind_b m (w ∷ ws) bs ≡ unwind_b m ws (drop (count_of w) bs)
  unfolding unwind_b
  unwind_b-deeper zero h = refl
  unwind_b-deeper (suc m) h = rw (sibs-deeper (suc m) w ws bs h, unwind_b-deeper m (omega arith))

  -- the record of rank d + 1 stands before those of its children, its siblings and their enclosing levels' siblings
  unwind-here : (d : ℕ) → rank_of w ≡ suc d → count_of w ≤ length bs
      → unwind (suc d) (w ∷ ws) bs ≡ w ∷ unwind (suc (suc d)) ws (drop (count_of w) bs)
  unfolding unwind flat
  unwind-here d e h =
      rw (sibs-here (suc d) w ws bs e, unwind-deeper d (omega arith), taken (count_of w) bs h)
      (ap₂ {C = List ℕ} ◌∷◌ (pack-at w (suc d) e)
      (append_assoc (flat (suc (suc d)) (sibs (suc (suc d)) ws (drop (count_of w) bs)))
      (flat (suc d) (sibs (suc d) ws (drop (count_of w) bs)))
      (unwind d ws (drop (count_of w) bs))))

  unwind_b-here : (d : ℕ) → rank_of w ≡ suc d
      → unwind_b (suc d) (w ∷ ws) bs ≡ map binding_of (take (count_of w) bs) ++ unwind_b (suc (suc d)) ws (drop (count_of w) bs)
  unfolding unwind_b bound
  unwind_b-here d e = rw (sibs-here (suc d) w ws bs e, unwind_b-deeper d (omega arith)) (simp append_assoc)

pub zeros-are : (bs : List ℕ) → all_zero bs ≡ true → bs ≡ replicate (length bs) 0
unfolding all_zero
zeros-are [] e = refl
zeros-are (b ∷ bs) e = let a = halves (eqb b 0) (all_zero bs) e in ap₂ {C = List ℕ} ◌∷◌ (eqb-true b 0 a.0) (zeros-are bs a.1)

-- how many ranks lie above
split : (p m : ℕ) → m ≤ p → p ≡ (p - m) + m
split p m h = omega arith

module _ (limit : ℕ) (live : ℕ → Bool) (w : ℕ) (ws : List ℕ) (p : ℕ) (low bs : List ℕ) (hl : length low ≡ limit + 2) where
  unwind-to : (m : ℕ) → m ≤ suc p → rank_of w < m + 1 → unwind (suc p) (w ∷ ws) bs ≡ unwind m (w ∷ ws) bs
  unwind-to m h l = ap (λ (n : ℕ). unwind n (w ∷ ws) bs) (split (suc p) m h) ∙ unwind-above w ws bs (suc p - m) m l

  unwind_b-to : (m : ℕ) → m ≤ suc p → rank_of w < m + 1 → unwind_b (suc p) (w ∷ ws) bs ≡ unwind_b m (w ∷ ws) bs
  unwind_b-to m h l = ap (λ (n : ℕ). unwind_b n (w ∷ ws) bs) (split (suc p) m h) ∙ unwind_b-above w ws bs (suc p - m) m l

  good-zero : w ≡ 0 → all_zero ws ≡ true → all_zero bs ≡ true → Good limit live p low (w ∷ ws) bs
  unfolding unwind unwind_b
  good-zero z g k =
      record {
        spare = suc (length ws);
        words = ap₂ {C = List ℕ} ◌∷◌ z (zeros-are ws g) ∙ ap (λ (l : List ℕ). l ++ replicate (suc (length ws)) 0) (sym (unwind-to 0 (omega arith) (omega arith)));
        spare_b = length bs;
        binds = zeros-are bs k ∙ ap (λ (l : List Binding). map bind_word l ++ replicate (length bs) 0) (sym (unwind_b-to 0 (omega arith) (omega arith)));
        valid = λ e a b. rw (sibs-above e w ws bs (omega arith)) tt;
      }

  module _ (pass : Passes limit live p low w bs) (g : Good limit live (rank_of w) (noted low w) ws (drop (count_of w) bs)) where
    seen : List ℕ
    seen = set low (rank_of w) (seg_of w + 1)

    at_low : (e : ℕ) → e < rank_of w → get_or (noted low w) e 0 ≡ get_or low e 0
    unfolding seen
    at_low e h = get_or-set_other seen (rank_of w + 1) e 0 0 (λ x. omega arith) ∙ get_or-set_other low (rank_of w) e (seg_of w + 1) 0 (λ x. omega arith)

    at_here : get_or (noted low w) (rank_of w) 0 ≡ seg_of w + 1
    unfolding seen
    at_here = get_or-set_other seen (rank_of w + 1) (rank_of w) 0 0 (λ x. omega arith) ∙ get_or-set_same low (rank_of w) (seg_of w + 1) 0 (omega (arith, pass.fits.shallow))

    at_next : get_or (noted low w) (rank_of w + 1) 0 ≡ 0
    unfolding seen
    at_next = get_or-set_same seen (rank_of w + 1) 0 0 (rw (length-set low (rank_of w) (seg_of w + 1)) (omega (arith, pass.fits.shallow)))

    valid-above : (e : ℕ) → rank_of w < e → Valid limit live e (get_or low e 0) (sibs e (w ∷ ws) bs)
    valid-above e h = rw (sibs-above e w ws bs h) tt

    valid-below : (e : ℕ) → 0 < e → e < rank_of w → Valid limit live e (get_or low e 0) (sibs e (w ∷ ws) bs)
    valid-below e a h = rw (sibs-deeper e w ws bs h, ← at_low e h) (g.valid e a (omega arith))

    valid-here : Valid limit live (rank_of w) (get_or low (rank_of w) 0) (sibs (rank_of w) (w ∷ ws) bs)
    valid-here =
        rw (sibs-here (rank_of w) w ws bs refl) (
          pass.fits,
          rw (← add-one (rank_of w)) (rw at_next at (g.valid (rank_of w + 1) (omega arith) (omega arith))),
          rw (← add-one (seg_of w)) (rw at_here at (g.valid (rank_of w) pass.fits.ranked (omega arith))),
        )

    good-valid : (e : ℕ) → 0 < e → Valid limit live e (get_or low e 0) (sibs e (w ∷ ws) bs)
    good-valid e a =
        ⊎_elim (λ h. valid-above e h)
        (λ h. ⊎_elim (λ x. subst (λ (y : ℕ). Valid limit live y (get_or low y 0) (sibs y (w ∷ ws) bs)) (sym x) valid-here) (λ x. valid-below e a x) (eq-or-lt_of_le h))
        (lt-or-le (rank_of w) e)

    down : ℕ
    down = rank_of w - 1

    rank_is : rank_of w ≡ suc down
    unfolding down
    rank_is = omega (arith, pass.fits.ranked)

    after : List ℕ
    after = unwind (suc (rank_of w)) ws (drop (count_of w) bs)

    after_b : List Binding
    after_b = unwind_b (suc (rank_of w)) ws (drop (count_of w) bs)

    words-here : unwind (suc p) (w ∷ ws) bs ≡ w ∷ after
    unfolding after
    words-here =
        unwind-to (suc down) (omega (arith, rank_is, pass.step)) (omega (arith, rank_is))
        ∙ unwind-here w ws bs down rank_is pass.held
        ∙ ap (λ (n : ℕ). w ∷ unwind (suc n) ws (drop (count_of w) bs)) (sym rank_is)

    binds-here : unwind_b (suc p) (w ∷ ws) bs ≡ map binding_of (take (count_of w) bs) ++ after_b
    unfolding after_b
    binds-here =
        unwind_b-to (suc down) (omega (arith, rank_is, pass.step)) (omega (arith, rank_is))
        ∙ unwind_b-here w ws bs down rank_is
        ∙ ap (λ (n : ℕ). map binding_of (take (count_of w) bs) ++ unwind_b (suc n) ws (drop (count_of w) bs)) (sym rank_is)

    bind-words : map bind_word (unwind_b (suc p) (w ∷ ws) bs) ≡ take (count_of w) bs ++ map bind_word after_b
    bind-words =
        ap (map bind_word) binds-here
        ∙ map-append bind_word (map binding_of (take (count_of w) bs)) after_b
        ∙ ap (λ (l : List ℕ). l ++ map bind_word after_b) (words_back (take (count_of w) bs))

    good-pass : Good limit live p low (w ∷ ws) bs
    unfolding after after_b
    good-pass =
        record {
          spare = g.spare;
          words = ap (λ (l : List ℕ). w ∷ l) g.words ∙ ap (λ (l : List ℕ). l ++ replicate g.spare 0) (sym words-here);
          spare_b = g.spare_b;
          binds =
              sym (take-append-drop (count_of w) bs)
              ∙ ap (λ (l : List ℕ). take (count_of w) bs ++ l) g.binds
              ∙ sym (append_assoc (take (count_of w) bs) (map bind_word after_b) (replicate g.spare_b 0))
              ∙ ap (λ (l : List ℕ). l ++ replicate g.spare_b 0) (sym bind-words);
          valid = λ e a b. good-valid e a;
        }

module _ (limit : ℕ) (live : ℕ → Bool) (w : ℕ) (ws : List ℕ) (ih : (p : ℕ) (low bs : List ℕ) → length low ≡ limit + 2 → scan limit live p low ws bs ≡ true → Good limit live p low ws bs) where
  sound-word : (t : Bool) → eqb w 0 ≡ t → (p : ℕ) (low bs : List ℕ) → length low ≡ limit + 2 → scan limit live p low (w ∷ ws) bs ≡ true → Good limit live p low (w ∷ ws) bs
  sound-word true z p low bs hl e =
      let x = eqb-true w 0 z in
      let y = halves (all_zero ws) (all_zero bs) (sym (scan-zero limit live p low w ws bs x) ∙ e) in
      good-zero limit live w ws p low bs hl x y.0 y.1
  sound-word false z p low bs hl e =
      let x = scan-true limit live p low w ws bs (eqb-false w 0 z) e in
      good-pass limit live w ws p low bs hl x.0 (ih (rank_of w) (noted low w) (drop (count_of w) bs) (simp length-set hl) x.1)

pub sound : (limit : ℕ) (live : ℕ → Bool) (ws : List ℕ) (p : ℕ) (low bs : List ℕ) → length low ≡ limit + 2 → scan limit live p low ws bs ≡ true → Good limit live p low ws bs
unfolding scan
sound limit live [] p low bs hl e =
    record {
      spare = 0;
      words = rw (unwind-nil (suc p) bs);
      spare_b = length bs;
      binds = rw (unwind_b-nil (suc p) bs) (zeros-are bs e);
      valid = λ x a b. unfold sibs siblings in tt;
    }
sound limit live (w ∷ ws) p low bs hl e = sound-word limit live w ws (sound limit live ws) (eqb w 0) refl p low bs hl e
