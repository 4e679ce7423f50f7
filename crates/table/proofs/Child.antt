-- A level's child among the words: what a turn of the code's pass does, and that the child is where the path's next key leads.
use mathlib.Core.Path.{◌≡◌, refl, ap, sym, subst, ◌∙◌}
use mathlib.Core.Bool.{Bool, true, false, cond}
use mathlib.Core.Logic.{⊎_elim}
use mathlib.Core.List.{List, [], ◌∷◌, ◌++◌, append_assoc, append-nil, map}
use Prim.Native.Nat.{ℕ, zero, suc, ◌+◌, ◌-◌, ◌*◌, ◌<◌, ◌≤◌}
use native.Mathlib.Omega.{arith}
use native.Mathlib.Numerals.{add-one}
use lib.Dec.{ltb, eqb}
use lib.ListN.{length, take, drop, get_or, set, length-append, length-drop, take-append-drop, drop_of_length-le}
use lib.Seq.{take-add, take_all, take_at, take-suc, drop_at, drop-drop, drop-cons, get_or_at, get_or-set_same, get_or-set_other, length-take-le}
use borrow.Author.Tests.{lt-ltb, le-ltb, lt-leb, eq-eqb, ne_eqb, ltb-true, ltb-false, eqb-true, eqb-false}
use Rattle.pkg_length.specs.Refusal.{Answer, gives, refuses}
use Rattle.table.specs.Layout.{rank_of, count_of, seg_of, binding_of}
use Rattle.std.specs.Prelude.{Result, Ok, Err}
use Rattle.table.specs.Inside.{Sought, here, before, missing, gone, seek_in, child_in, counts, placed, placed_gone_at, slot_in, bindings_at, slot_spot, spot_in, spotted, seen, value_held, level_held, deepest, place_behind, start, Reached, Trailed, Rising, BindingsHeld}
use Rattle.table.specs.declared.inner.Place.{Place}
use Rattle.table.specs.declared.inner.Sought.{Sought as Placed}
use Rattle.table.proofs.Facts.{lt-or-le, plus-zero}
use Rattle.table.proofs.Seek.{seek_stop, seek-down, seek-before, seek-other, seek-deep}
use Rattle.table.proofs.Focus.{counts-append, gone-not}
use Rattle.table.proofs.Passes.{counts-turn, counts-low, gone_at}

-- one turn of the pass
module _ (r s : ℕ) (ls : List ℕ) (i n : ℕ) where
  pub child-out : length ls ≤ i → Err i ≡ child_in r s (drop i ls) i n
  unfolding child_in
  child-out h = sym (rw (drop_of_length-le ls h))

  module _ (h : i < length ls) where
    pub child-past : r < rank_of (get_or ls i 0) → child_in r s (drop (i + 1) ls) (i + 1) (n + count_of (get_or ls i 0)) ≡ child_in r s (drop i ls) i n
    unfolding child_in
    child-past l = sym (rw (add-one i, drop-cons ls i 0 h, lt-ltb r (rank_of (get_or ls i 0)) l))

    pub child-stop : rank_of (get_or ls i 0) < r → Err i ≡ child_in r s (drop i ls) i n
    unfolding child_in
    child-stop l = sym (rw (drop-cons ls i 0 h, le-ltb r (rank_of (get_or ls i 0)) (omega arith), lt-ltb (rank_of (get_or ls i 0)) r l))

    module _ (e : rank_of (get_or ls i 0) ≡ r) where
      pub child-smaller : seg_of (get_or ls i 0) < s → child_in r s (drop (i + 1) ls) (i + 1) (n + count_of (get_or ls i 0)) ≡ child_in r s (drop i ls) i n
      unfolding child_in
      child-smaller l =
          sym (rw (add-one i, drop-cons ls i 0 h, le-ltb r (rank_of (get_or ls i 0)) (omega arith), le-ltb (rank_of (get_or ls i 0)) r (omega arith), lt-ltb (seg_of (get_or ls i 0)) s l))

      pub child-here : s ≡ seg_of (get_or ls i 0) → Ok (record { level = i; binding = n }) ≡ child_in r s (drop i ls) i n
      unfolding child_in
      child-here l =
          sym (rw (
            drop-cons ls i 0 h,
            le-ltb r (rank_of (get_or ls i 0)) (omega arith),
            le-ltb (rank_of (get_or ls i 0)) r (omega arith),
            le-ltb (seg_of (get_or ls i 0)) s (omega arith),
            eq-eqb (seg_of (get_or ls i 0)) s (sym l),
          ))

      pub child-behind : s ≤ seg_of (get_or ls i 0) → (s ≡ seg_of (get_or ls i 0) → ⊥) → Err i ≡ child_in r s (drop i ls) i n
      unfolding child_in
      child-behind l d =
          sym (rw (
            drop-cons ls i 0 h,
            le-ltb r (rank_of (get_or ls i 0)) (omega arith),
            le-ltb (rank_of (get_or ls i 0)) r (omega arith),
            le-ltb (seg_of (get_or ls i 0)) s l,
            ne_eqb (seg_of (get_or ls i 0)) s (λ e. d (sym e)),
          ))

not_at : {T : Type 0} {i j m : ℕ} → ◌≡◌ {A = Result Place ℕ} (Err i) (Ok (record { level = j; binding = m })) → T
not_at e = absurd (let z : ◌≡◌ {A = ℕ} 0 1 = cc in omega arith)

-- a child that is there: the words around its record, and the path's way through it
record ChildAt (r s : ℕ) (ws : List ℕ) (k m j n : ℕ) : Type 0 where
  pre : List ℕ
  word : ℕ
  post : List ℕ
  parts : ws ≡ pre ++ (word ∷ post)
  at : j ≡ k + length pre
  from : n ≡ m + counts pre
  leads : (p : List ℕ) (a : ℕ) → seek_in (s ∷ p) ws r a k ≡ seek_in p post (suc r) j (suc j)

child-at : (r s : ℕ) (ws : List ℕ) (k m j n : ℕ) → child_in (suc r) s ws k m ≡ Ok (record { level = j; binding = n }) → ChildAt r s ws k m j n
unfolding child_in counts
child-at r s [] k m j n e = not_at e
child-at r s (w ∷ ws) k m j n e =
    go (ltb (suc r) (rank_of w)) (ltb (rank_of w) (suc r)) (ltb (seg_of w) s) (eqb (seg_of w) s) refl refl refl refl (child-at r s ws (suc k) (m + count_of w) j n) e
  where
    on : ((p : List ℕ) (a : ℕ) → seek_in (s ∷ p) (w ∷ ws) r a k ≡ seek_in (s ∷ p) ws r a (suc k)) → ChildAt r s ws (suc k) (m + count_of w) j n → ChildAt r s (w ∷ ws) k m j n
    on f c =
        record {
          pre = w ∷ c.pre;
          word = c.word;
          post = c.post;
          parts = ap (λ (l : List ℕ). w ∷ l) c.parts;
          at = omega (arith, c.at);
          from = omega (arith, c.from);
          leads = λ p a. f p a ∙ c.leads p a;
        }

    go : (a b d e : Bool) → ltb (suc r) (rank_of w) ≡ a → ltb (rank_of w) (suc r) ≡ b → ltb (seg_of w) s ≡ d → eqb (seg_of w) s ≡ e
        → (child_in (suc r) s ws (suc k) (m + count_of w) ≡ Ok (record { level = j; binding = n }) → ChildAt r s ws (suc k) (m + count_of w) j n)
        → cond a (child_in (suc r) s ws (suc k) (m + count_of w)) (cond b (Err k) (cond d (child_in (suc r) s ws (suc k) (m + count_of w)) (cond e (Ok (record { level = k; binding = m })) (Err k)))) ≡ Ok (record { level = j; binding = n })
        → ChildAt r s (w ∷ ws) k m j n
    go true b d e f g h i y x = on (λ p a. seek-deep s p w ws r a k (ltb-true (suc r) (rank_of w) f)) (y x)
    go false true d e f g h i y x = not_at x
    go false false true e f g h i y x = on (λ p a. seek-other s p w ws r a k (omega (arith, ltb-false (suc r) (rank_of w) f, ltb-false (rank_of w) (suc r) g)) (ltb-true (seg_of w) s h)) (y x)
    go false false false true f g h i y x =
        let q : ◌≡◌ {A = Place} (record { level = k; binding = m }) (record { level = j; binding = n }) = cc in
        let u : k ≡ j = ap (λ (p : Place). p.level) q in
        let v : m ≡ n = ap (λ (p : Place). p.binding) q in
        record {
          pre = [];
          word = w;
          post = ws;
          parts = refl;
          at = omega arith;
          from = omega arith;
          leads = λ p a. seek-down s p w ws r a k (omega (arith, ltb-false (suc r) (rank_of w) f, ltb-false (rank_of w) (suc r) g)) (eqb-true (seg_of w) s i) ∙ ap (λ (y : ℕ). seek_in p ws (suc r) y (suc y)) u;
        }
    go false false false false f g h i y x = not_at x

-- a child that is not
child-gone : (r s : ℕ) (ws : List ℕ) (k m j : ℕ) → child_in (suc r) s ws k m ≡ Err j → (p : List ℕ) (a : ℕ) → seek_in (s ∷ p) ws r a k ≡ gone p r j
unfolding child_in
child-gone r s [] k m j e p a = unfold seek_in in ap (gone p r) (let u : k ≡ j = cc in u)
child-gone r s (w ∷ ws) k m j e p a =
    go (ltb (suc r) (rank_of w)) (ltb (rank_of w) (suc r)) (ltb (seg_of w) s) (eqb (seg_of w) s) refl refl refl refl (λ x. child-gone r s ws (suc k) (m + count_of w) j x p a) e
  where
    same : ◌≡◌ {A = Result Place ℕ} (Err k) (Err j) → k ≡ j
    same x = cc

    go : (a' b d e : Bool) → ltb (suc r) (rank_of w) ≡ a' → ltb (rank_of w) (suc r) ≡ b → ltb (seg_of w) s ≡ d → eqb (seg_of w) s ≡ e
        → (child_in (suc r) s ws (suc k) (m + count_of w) ≡ Err j → seek_in (s ∷ p) ws r a (suc k) ≡ gone p r j)
        → cond a' (child_in (suc r) s ws (suc k) (m + count_of w)) (cond b (Err k) (cond d (child_in (suc r) s ws (suc k) (m + count_of w)) (cond e (Ok (record { level = k; binding = m })) (Err k)))) ≡ Err j
        → seek_in (s ∷ p) (w ∷ ws) r a k ≡ gone p r j
    go true b d e f g h i y x = seek-deep s p w ws r a k (ltb-true (suc r) (rank_of w) f) ∙ y x
    go false true d e f g h i y x = seek_stop s p w ws r a k (omega (arith, ltb-true (rank_of w) (suc r) g)) ∙ ap (gone p r) (same x)
    go false false true e f g h i y x = seek-other s p w ws r a k (omega (arith, ltb-false (suc r) (rank_of w) f, ltb-false (rank_of w) (suc r) g)) (ltb-true (seg_of w) s h) ∙ y x
    go false false false true f g h i y x = not_at (sym x)
    go false false false false f g h i y x =
        seek-before s p w ws r a k (omega (arith, ltb-false (suc r) (rank_of w) f, ltb-false (rank_of w) (suc r) g)) (omega (arith, ltb-false (seg_of w) s h, eqb-false (seg_of w) s i)) ∙ ap (gone p r) (same x)

-- The first j keys of a path lead to the record at index at, where j is not 0, and the next is looked for from index k on, behind m bindings.
pub record Cursor (ls p : List ℕ) (j at k m : ℕ) : Type 0 where
  pub before : j ≤ length p
  pub within : k ≤ length ls
  pub counted : m ≡ counts (take k ls)
  pub leads : (q : List ℕ) → seek_in (take j p ++ q) ls 0 0 0 ≡ seek_in q (drop k ls) j at k

pub cursor-start : (ls p : List ℕ) → Cursor ls p 0 0 0 0
cursor-start ls p = record { before = omega arith; within = omega arith; counted = unfold counts in refl; leads = λ q. refl }

pub cursor-low : (ls p : List ℕ) (j at k m : ℕ) → Cursor ls p j at k m → m ≤ 1023 * k
cursor-low ls p j at k m o = omega (arith, o.counted, counts-low ls k)

-- the next key
module _ (ls p : List ℕ) (j at k m : ℕ) (o : Cursor ls p j at k m) (hj : j < length p) (c : Result Place ℕ) (e : c ≡ child_in (j + 1) (get_or p j 0) (drop k ls) k m) where
  next-key : (q : List ℕ) → take (j + 1) p ++ q ≡ take j p ++ (get_or p j 0 ∷ q)
  next-key q = rw (add-one j, take-suc p j 0 hj) (append_assoc (take j p) (get_or p j 0 ∷ []) q)

  asked : (x : Result Place ℕ) → c ≡ x → child_in (suc j) (get_or p j 0) (drop k ls) k m ≡ x
  asked x d = ap (λ (n : ℕ). child_in n (get_or p j 0) (drop k ls) k m) (sym (add-one j)) ∙ sym e ∙ d

  module _ (i n : ℕ) (d : c ≡ Ok (record { level = i; binding = n })) where
    f : ChildAt j (get_or p j 0) (drop k ls) k m i n
    f = child-at j (get_or p j 0) (drop k ls) k m i n (asked (Ok (record { level = i; binding = n })) d)

    found_inside : i < length ls
    found_inside = omega (arith, f.at, ap length f.parts, length-append f.pre (f.word ∷ f.post), length-drop k ls)

    found_from : n ≡ counts (take i ls)
    found_from = f.from ∙ ap (λ (x : ℕ). x + counts f.pre) o.counted ∙ sym (ap counts front ∙ counts-append (take k ls) f.pre)
      where
        front : take i ls ≡ take k ls ++ f.pre
        front =
            ap (λ (x : ℕ). take x ls) f.at ∙ take-add k (length f.pre) ls
            ∙ ap (λ (l : List ℕ). take k ls ++ l) (ap (take (length f.pre)) f.parts ∙ take_at f.pre (f.word ∷ f.post) (length f.pre) refl)

    behind : drop (i + 1) ls ≡ f.post
    behind =
        ap (λ (x : ℕ). drop x ls) (sums i k (length f.pre) f.at) ∙ sym (drop-drop (length f.pre + 1) k ls)
        ∙ ap (drop (length f.pre + 1)) (f.parts ∙ sym (append_assoc f.pre (f.word ∷ []) f.post))
        ∙ drop_at (f.pre ++ (f.word ∷ [])) f.post (length f.pre + 1) (length-append f.pre (f.word ∷ []))
      where
        sums : (i k l : ℕ) → i ≡ k + l → i + 1 ≡ k + (l + 1)
        sums i k l e = omega arith

    cursor-turn : Cursor ls p (j + 1) i (i + 1) (n + count_of (get_or ls i 0))
    cursor-turn =
        record {
          before = omega arith;
          within = omega (arith, found_inside);
          counted = ap (λ (x : ℕ). x + count_of (get_or ls i 0)) found_from ∙ sym (counts-turn ls i found_inside);
          leads = λ q. ap (λ (l : List ℕ). seek_in l ls 0 0 0) (next-key q) ∙ o.leads (get_or p j 0 ∷ q) ∙ f.leads q at ∙ (λ x. seek_in q (sym behind x) (sym (add-one j) x) i (sym (add-one i) x));
        }

    cursor-reached : Reached ls p (j + 1) i n
    cursor-reached = record { inside = found_inside; counted = found_from; leads = cursor-turn.leads }

  module _ (i : ℕ) (d : c ≡ Err i) where
    turned-away : (q : List ℕ) → seek_in (take (j + 1) p ++ q) ls 0 0 0 ≡ gone q j i
    turned-away q =
        ap (λ (l : List ℕ). seek_in l ls 0 0 0) (next-key q) ∙ o.leads (get_or p j 0 ∷ q) ∙ child-gone j (get_or p j 0) (drop k ls) k m i (asked (Err i) d) q at

    -- the whole path
    pub placed-gone : placed_gone_at (length p) j i ≡ placed ls (seek_in p ls 0 0 0)
    placed-gone =
        sym (ap (placed ls) (ap (λ (l : List ℕ). seek_in l ls 0 0 0) (sym (take-append-drop (j + 1) p)) ∙ turned-away (drop (j + 1) p))
        ∙ ap (λ (x : ℕ). placed ls (gone (drop x p) j i)) (add-one j) ∙ gone_at ls p j j i refl hj)

    -- and every path that goes on so
    pub trail-gone : (x : ℕ) → j < x → x ≤ length p → (q : List ℕ) (y : ℕ) → seek_in (take x p ++ q) ls 0 0 0 ≡ here y → ⊥
    trail-gone x h l q y z =
        gone-not _ j i y
        (sym (turned-away (take (x - (j + 1)) (drop (j + 1) p) ++ q)) ∙ ap (λ (r : List ℕ). seek_in r ls 0 0 0) (sym (append_assoc (take (j + 1) p) (take (x - (j + 1)) (drop (j + 1) p)) q))
        ∙ ap (λ (r : List ℕ). seek_in (r ++ q) ls 0 0 0) (sym (take-add (j + 1) (x - (j + 1)) p) ∙ ap (λ (n : ℕ). take n p) (sums x j h)) ∙ z)
      where
        sums : (x j : ℕ) → j < x → j + 1 + (x - (j + 1)) ≡ x
        sums x j h = omega arith

-- the child that was found: the way goes on behind it
pub record Step (ls p : List ℕ) (j : ℕ) (child : Place) : Type 0 where
  pub reached : Reached ls p (j + 1) child.level child.binding
  pub low : child.binding ≤ 1023 * child.level
  pub on : (next : Place) → next ≡ place_behind ls child → Cursor ls p (j + 1) child.level next.level next.binding

pub cursor-step : (ls p : List ℕ) (j at : ℕ) (from : Place) → Cursor ls p j at from.level from.binding → j < length p → (c : Result Place ℕ) → c ≡ child_in (j + 1) (get_or p j 0) (drop from.level ls) from.level from.binding
    → (child : Place) → c ≡ Ok child → Step ls p j child
cursor-step ls p j at from o h c e child d =
    record {
      reached = cursor-reached ls p j at from.level from.binding o h c e child.level child.binding d;
      low = omega (arith, counts-low ls child.level, found_from ls p j at from.level from.binding o h c e child.level child.binding d);
      on = λ next n. subst (λ (q : Place). Cursor ls p (j + 1) child.level q.level q.binding) (sym n) (cursor-turn ls p j at from.level from.binding o h c e child.level child.binding d);
    }

-- the path's end
pub cursor-end : (ls p : List ℕ) (j at k m from : ℕ) → Cursor ls p j at k m → length p ≤ j → from ≡ counts (take at ls) → Placed.Here (record { level = at; binding = from }) ≡ placed ls (seek_in p ls 0 0 0)
unfolding seek_in
cursor-end ls p j at k m from o h e =
    ap (λ (b : ℕ). Placed.Here (record { level = at; binding = b })) e ∙ ap (placed ls) (sym (o.leads []) ∙ ap (λ (l : List ℕ). seek_in l ls 0 0 0) (append-nil (take j p) ∙ take_all j p h))

-- a level more on the way
pub trail_more : (ls p : List ℕ) (places : List Place) (j : ℕ) (q : Place) → j < length places → ((x : ℕ) → x < j → Reached ls p (x + 1) (get_or places x start).level (get_or places x start).binding)
    → Reached ls p (j + 1) q.level q.binding → (x : ℕ) → x < j + 1 → Reached ls p (x + 1) (get_or (set places j q) x start).level (get_or (set places j q) x start).binding
trail_more ls p places j q ha old new x h = ⊎_elim before here-now (lt-or-le x j)
  where
    there : Place → ℕ → Type 0
    there r y = Reached ls p (y + 1) r.level r.binding

    before : x < j → there (get_or (set places j q) x start) x
    before l = subst (λ (r : Place). there r x) (sym (get_or-set_other places j x q start (λ e. omega arith))) (old x l)

    here-now : j ≤ x → there (get_or (set places j q) x start) x
    here-now l =
        let e : j ≡ x = omega arith in
        subst (λ (y : ℕ). there (get_or (set places j q) y start) y) e (subst (λ (r : Place). there r j) (sym (get_or-set_same places j q start ha)) new)

-- Asking the scope of the first n keys, which lead to the record at index at.
module _ (ls p : List ℕ) (n at from : ℕ) (o : Reached ls p n at from) (s : ℕ) where
  -- for a level
  pub held-level : (m i k : ℕ) → Ok (record { level = i; binding = k }) ≡ child_in (n + 1) s (drop (at + 1) ls) (at + 1) m → level_held ls p s n ≡ gives tt
  unfolding level_held
  held-level m i k e =
      ap seen (o.leads (s ∷ []) ∙ (child-at n s (drop (at + 1) ls) (at + 1) m i k (ap (λ (x : ℕ). child_in x s (drop (at + 1) ls) (at + 1) m) (sym (add-one n)) ∙ sym e)).leads [] at) ∙ unfold seek_in in refl

  pub held_none : (m i : ℕ) → Err i ≡ child_in (n + 1) s (drop (at + 1) ls) (at + 1) m → level_held ls p s n ≡ refuses 15 1
  unfolding level_held
  held_none m i e =
      ap seen (o.leads (s ∷ []) ∙ child-gone n s (drop (at + 1) ls) (at + 1) m i (ap (λ (x : ℕ). child_in x s (drop (at + 1) ls) (at + 1) m) (sym (add-one n)) ∙ sym e) [] at) ∙ unfold gone in refl

  -- for a binding
  module _ (bs : List ℕ) (z : 0 < n) (h : n ≤ length p) where
    pub reached-here : seek_in (take n p) ls 0 0 0 ≡ here at
    unfolding seek_in
    reached-here = ap (λ (l : List ℕ). seek_in l ls 0 0 0) (sym (append-nil (take n p))) ∙ o.leads []

    long : length (take n p ++ (s ∷ [])) ≡ n + 1
    long = length-append (take n p) (s ∷ []) ∙ ap (λ (x : ℕ). x + 1) (length-take-le n p h)

    held-spot : spot_in ls bs (take n p ++ (s ∷ [])) ≡ Ok (slot_spot at (slot_in s (bindings_at ls bs at) (counts (take at ls))))
    unfolding spot_in
    held-spot =
        rw (
          lt-leb (length (take n p ++ (s ∷ []))) 1 (omega (arith, long)),
          take_at (take n p) (s ∷ []) (length (take n p ++ (s ∷ [])) - 1) (omega (arith, long, length-take-le n p h)),
          reached-here,
          get_or_at (take n p) s [] 0 (length (take n p ++ (s ∷ [])) - 1) (omega (arith, long, length-take-le n p h)),
        )

    slot_held : (q : Result ℕ ℕ) → q ≡ slot_in s (map binding_of (take (count_of (get_or ls at 0)) (drop from bs))) from → value_held ls bs p s n ≡ spotted (Ok (slot_spot at q))
    unfolding value_held bindings_at
    slot_held q e = ap spotted (held-spot ∙ ap (λ (r : Result ℕ ℕ). Ok (slot_spot at r)) (sym (e ∙ ap (λ (x : ℕ). slot_in s (map binding_of (take (count_of (get_or ls at 0)) (drop x bs))) x) o.counted)))

    pub held-bound : (v : ℕ) → Ok v ≡ slot_in s (map binding_of (take (count_of (get_or ls at 0)) (drop from bs))) from → value_held ls bs p s n ≡ gives v
    held-bound v e = slot_held (Ok v) e

    pub held-free : (i : ℕ) → Err i ≡ slot_in s (map binding_of (take (count_of (get_or ls at 0)) (drop from bs))) from → value_held ls bs p s n ≡ refuses 16 0
    held-free i e = slot_held (Err i) e

-- the bindings of a level on the way are there
pub reached-slots : (ls bs p : List ℕ) (n at from : ℕ) → BindingsHeld ls bs → Reached ls p n at from → 0 < n → n ≤ length p
    → (from + count_of (get_or ls at 0) ≤ length bs) × Rising bs from (count_of (get_or ls at 0))
reached-slots ls bs p n at from b o z h =
    subst (λ (x : ℕ). (x + count_of (get_or ls at 0) ≤ length bs) × Rising bs x (count_of (get_or ls at 0))) (sym o.counted)
    (b.held at, b.rise (take n p) at (omega (arith, length-take-le n p h)) (reached-here ls p n at from o 0 bs z h))

-- a scope whose level is not there holds nothing
lost : (ls p : List ℕ) → 0 < length p → ((q : List ℕ) (j : ℕ) → seek_in (p ++ q) ls 0 0 0 ≡ here j → ⊥) → (s : ℕ)
    → (seen (seek_in (p ++ (s ∷ [])) ls 0 0 0) ≡ refuses 15 1) × ((bs : List ℕ) → spotted (spot_in ls bs (p ++ (s ∷ []))) ≡ refuses 16 0)
lost ls p z f s = (unseen (seek_in (p ++ (s ∷ [])) ls 0 0 0) refl, λ bs. spots bs (seek_in p ls 0 0 0) refl)
  where
    unseen : (x : Sought) → seek_in (p ++ (s ∷ [])) ls 0 0 0 ≡ x → seen x ≡ refuses 15 1
    unseen (here j) e = absurd (f (s ∷ []) j e)
    unseen (before j) e = refl
    unseen (missing n) e = refl

    long : length (p ++ (s ∷ [])) ≡ length p + 1
    long = length-append p (s ∷ [])

    spots : (bs : List ℕ) (x : Sought) → seek_in p ls 0 0 0 ≡ x → spotted (spot_in ls bs (p ++ (s ∷ []))) ≡ refuses 16 0
    spots bs (here j) e = absurd (f [] j (ap (λ (l : List ℕ). seek_in l ls 0 0 0) (append-nil p) ∙ e))
    spots bs (before j) e = unfold spot_in in rw (lt-leb (length (p ++ (s ∷ []))) 1 (omega (arith, long)), take_at p (s ∷ []) (length (p ++ (s ∷ [])) - 1) (omega (arith, long)), e)
    spots bs (missing n) e = unfold spot_in in rw (lt-leb (length (p ++ (s ∷ []))) 1 (omega (arith, long)), take_at p (s ∷ []) (length (p ++ (s ∷ [])) - 1) (omega (arith, long)), e)

-- The search outward, from the deepest level that is there.
pub deepest-on : {A : Type 0} (ask : ℕ → Answer A) (n k q : ℕ) → ask (n + 1) ≡ refuses k q → deepest ask (n + 1) ≡ deepest ask n
unfolding deepest
deepest-on ask n k q e = rw (add-one n) (rw (← add-one n, e))

pub deepest-found : {A : Type 0} (ask : ℕ → Answer A) (n : ℕ) (v : A) → 0 < n → ask n ≡ gives v → deepest ask n ≡ gives (record { depth = n; value = v })
unfolding deepest
deepest-found ask zero v z e = absurd (omega arith)
deepest-found ask (suc n) v z e = rw e

pub deepest-same : {A : Type 0} (ask : ℕ → Answer A) (k q : ℕ) (d n : ℕ) → ((i : ℕ) → d < i → i ≤ d + n → ask i ≡ refuses k q) → deepest ask d ≡ deepest ask (d + n)
deepest-same ask k q d zero h = ap (deepest ask) (plus-zero d)
deepest-same ask k q d (suc n) h =
    deepest-same ask k q d n (λ i x y. h i x (omega arith)) ∙ sym (ap (deepest ask) (more d n) ∙ deepest-on ask (d + n) k q (h (d + n + 1) (omega arith) (omega arith)))
  where
    more : (d n : ℕ) → d + suc n ≡ d + n + 1
    more d n = omega arith

module _ (ls p : List ℕ) (places : List Place) (d : ℕ) (o : Trailed ls p places d) (s : ℕ) where
  to_end : (n l : ℕ) → n ≤ l → n + (l - n) ≡ l
  to_end n l h = omega arith

  away : (i : ℕ) → d < i → i ≤ d + (length p - d)
      → (seen (seek_in (take i p ++ (s ∷ [])) ls 0 0 0) ≡ refuses 15 1) × ((bs : List ℕ) → spotted (spot_in ls bs (take i p ++ (s ∷ []))) ≡ refuses 16 0)
  away i h l = lost ls (take i p) (omega (arith, length-take-le i p (omega (arith, o.short)))) (o.gone i h (omega (arith, o.short))) s

  pub trail-levels : deepest (level_held ls p s) d ≡ deepest (level_held ls p s) (length p)
  trail-levels = deepest-same (level_held ls p s) 15 1 d (length p - d) (λ i h l. unfold level_held in (away i h l).0) ∙ ap (deepest (level_held ls p s)) (to_end d (length p) o.short)

  pub trail-values : (bs : List ℕ) → deepest (value_held ls bs p s) d ≡ deepest (value_held ls bs p s) (length p)
  trail-values bs = deepest-same (value_held ls bs p s) 16 0 d (length p - d) (λ i h l. unfold value_held in (away i h l).1 bs) ∙ ap (deepest (value_held ls bs p s)) (to_end d (length p) o.short)
