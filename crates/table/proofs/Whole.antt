-- The three parts of memory hold a valid tree exactly when they pass the test.
use mathlib.Core.Path.{◌≡◌, refl, ap, ap₂, sym, subst, ◌∙◌}
use mathlib.Core.Bool.{Bool, true, false, not, ◌&&◌}
use mathlib.Core.List.{List, [], ◌∷◌, ◌++◌, append-nil, map}
use Prim.Native.Nat.{ℕ, zero, suc, ◌+◌, ◌-◌, ◌≤◌, ◌^◌}
use native.Mathlib.Omega.{arith}
use lib.Dec.{eqb, leb}
use lib.ListN.{length, take, drop, get_or, replicate, length-append, length-replicate, length-map, take-append-drop}
use lib.Seq.{drop_at, length-take-le}
use borrow.Author.Tests.{ne_eqb, le-leb, eqb-false, leb-true, ltb-true}
use Rattle.pkg_length.proofs.Answers.{halves, never}
use Rattle.name_object.specs.Memory.{all_zero}
use Rattle.table.proofs.Facts.{get_or-zeros}
use Rattle.table.specs.Limits.{Limits}
use Rattle.table.specs.Tree.{Binding, Forest, none, level, Tree, bound, level_count, is_live}
use Rattle.table.specs.Layout.{pack, bind_word, flat, pad}
use Rattle.table.specs.Valid.{forest_ok, some, valid}
use Rattle.table.specs.Inside.{scan, lowest, objects_ok, parts_ok, below}
use Rattle.table.proofs.Shape.{Valid, forest-valid, valid-forest, Small}
use Rattle.table.proofs.Sound.{sibs, unwind, unwind_b, Good, sound, zeros-are}
use Rattle.table.proofs.Complete.{complete, zeros-spare, scan-spare}

pub level-count : (f : Forest) (r : ℕ) → length (flat r f) ≡ level_count f
unfolding flat level_count
level-count none r = refl
level-count (level s t b kids next) r = ap suc (length-append (flat (suc r) kids) (flat r next) ∙ ap₂ ◌+◌ (level-count kids (suc r)) (level-count next r))

-- the tests of a tree, as facts
pub record Whole (m : Limits) (t : Tree) : Type 0 where
  pub rooted : some t.levels ≡ true
  pub forest : Valid m.components (is_live t) 1 0 t.levels
  pub levels : length (flat 1 t.levels) ≤ m.levels
  pub bindings : length (bound t.levels) ≤ m.bindings
  pub objects : length t.objects ≤ m.objects

-- handles that objects have fit their field
pub small-handles : (m : Limits) (t : Tree) → Whole m t → m.objects ≤ 2 ^ 32 → Small (is_live t)
small-handles m t w hm h e = omega (arith, w.objects, ltb-true h (length t.objects) e)

pub valid-whole : (m : Limits) (t : Tree) → valid m t ≡ true → Whole m t
unfolding valid
valid-whole m t h =
    let a = halves _ (leb (length t.objects) m.objects) h in
    let b = halves _ (leb (length (bound t.levels)) m.bindings) a.0 in
    let c = halves _ (leb (level_count t.levels) m.levels) b.0 in
    let d = halves (some t.levels) (forest_ok m.components (is_live t) 1 0 t.levels) c.0 in
    record {
      rooted = d.0;
      forest = forest-valid m.components (is_live t) 1 0 t.levels d.1;
      levels = rw (level-count t.levels 1) (leb-true _ _ c.1);
      bindings = leb-true _ _ b.1;
      objects = leb-true _ _ a.1;
    }

pub whole-valid : (m : Limits) (t : Tree) → Whole m t → valid m t ≡ true
unfolding valid
whole-valid m t w =
    rw (
      w.rooted,
      valid-forest m.components (is_live t) 1 0 t.levels w.forest,
      le-leb (level_count t.levels) m.levels (rw (level-count t.levels 1) at w.levels),
      le-leb (length (bound t.levels)) m.bindings w.bindings,
    )
    (le-leb _ _ w.objects)

-- the three parts that hold a tree
pub record Held (m : Limits) (t : Tree) (ls bs os : List ℕ) : Type 0 where
  pub whole : Whole m t
  pub levels : ls ≡ pad m.levels (flat 1 t.levels)
  pub bindings : bs ≡ pad m.bindings (map bind_word (bound t.levels))
  pub objects : os ≡ length t.objects ∷ pad m.objects t.objects

module _ (n : ℕ) (xs ys : List ℕ) (z : ℕ) (e : xs ≡ ys ++ replicate z 0) (l : length xs ≡ n) where
  spare-is : length ys + z ≡ n
  spare-is = sym (simp (length-append, length-replicate) at (ap length e)) ∙ l

  spare-sub : z ≡ n - length ys
  spare-sub = omega (arith, spare-is)

  pub pad-is : xs ≡ pad n ys
  unfolding pad
  pad-is = e ∙ ap (λ (k : ℕ). ys ++ replicate k 0) spare-sub

  pub pad-short : length ys ≤ n
  pad-short = omega (arith, spare-is)

pub length-pad : (n : ℕ) (xs : List ℕ) → length xs ≤ n → length (pad n xs) ≡ n
unfolding pad
length-pad n xs h = rw (length-append xs (replicate (n - length xs) 0), length-replicate {A = ℕ} (n - length xs) 0) (omega arith)

pub length-words : (f : Forest) → length (map bind_word (bound f)) ≡ length (bound f)
length-words f = length-map (bound f) bind_word

-- what passes holds a tree
flat-some : (f : Forest) (z : ℕ) → (get_or (flat 1 f ++ replicate z 0) 0 0 ≡ 0 → ⊥) → some f ≡ true
unfolding flat
flat-some none zero h = absurd (h refl)
flat-some none (suc z) h = absurd (h refl)
flat-some (level s t b kids next) z h = refl

length-lowest : (limit : ℕ) → length (lowest limit) ≡ limit + 2
unfolding lowest
length-lowest limit = length-replicate {A = ℕ} (limit + 2) 0

low-at : (limit r : ℕ) → get_or (lowest limit) r 0 ≡ 0
unfolding lowest
low-at limit r = get_or-zeros (limit + 2) r

module _ (m : Limits) (ls bs : List ℕ) (n : ℕ) (vs : List ℕ) (ll : length ls ≡ m.levels) (lb : length bs ≡ m.bindings) (lo : length vs ≡ m.objects)
    (hn : n ≤ m.objects) (hz : all_zero (drop n vs) ≡ true) (h0 : get_or ls 0 0 ≡ 0 → ⊥) (g : Good m.components (below n) 0 (lowest m.components) ls bs) where
  found : Tree
  found = record { levels = sibs 1 ls bs; objects = take n vs }

  count-is : length (take n vs) ≡ n
  count-is = length-take-le n vs (omega arith)

  level-list : ls ≡ flat 1 (sibs 1 ls bs) ++ replicate g.spare 0
  unfolding unwind
  level-list = g.words ∙ ap (λ (l : List ℕ). l ++ replicate g.spare 0) (append-nil (flat 1 (sibs 1 ls bs)))

  bind-list : bs ≡ map bind_word (bound (sibs 1 ls bs)) ++ replicate g.spare_b 0
  unfolding unwind_b
  bind-list = g.binds ∙ ap (λ (l : List Binding). map bind_word l ++ replicate g.spare_b 0) (append-nil (bound (sibs 1 ls bs)))

  value-list : vs ≡ take n vs ++ replicate (length (drop n vs)) 0
  value-list = sym (take-append-drop n vs) ∙ ap (λ (l : List ℕ). take n vs ++ l) (zeros-are (drop n vs) hz)

  held-tree : Held m found ls bs (n ∷ vs)
  unfolding found
  held-tree =
      record {
        whole =
            record {
              rooted = flat-some (sibs 1 ls bs) g.spare (λ e. h0 (ap (λ (l : List ℕ). get_or l 0 0) level-list ∙ e));
              forest = subst (λ (k : ℕ). Valid m.components (below k) 1 0 (sibs 1 ls bs)) (sym count-is) (rw (low-at m.components 1) at (g.valid 1 (omega arith) (omega arith)));
              levels = pad-short m.levels ls (flat 1 (sibs 1 ls bs)) g.spare level-list ll;
              bindings = rw (length-words (sibs 1 ls bs)) at (pad-short m.bindings bs (map bind_word (bound (sibs 1 ls bs))) g.spare_b bind-list lb);
              objects = rw count-is hn;
            };
        levels = pad-is m.levels ls (flat 1 (sibs 1 ls bs)) g.spare level-list ll;
        bindings = pad-is m.bindings bs (map bind_word (bound (sibs 1 ls bs))) g.spare_b bind-list lb;
        objects = ap₂ {C = List ℕ} ◌∷◌ (sym count-is) (pad-is m.objects vs (take n vs) (length (drop n vs)) value-list lo);
      }

module _ (m : Limits) (ls bs : List ℕ) (ll : length ls ≡ m.levels) (lb : length bs ≡ m.bindings) where
  pub parts_held : (os : List ℕ) → length os ≡ suc m.objects → parts_ok m ls bs os ≡ true → (t : Tree) × Held m t ls bs os
  unfolding parts_ok objects_ok
  parts_held [] lo h = absurd (let z : ◌≡◌ {A = ℕ} 0 1 = cc in omega arith)
  parts_held (n ∷ vs) lo h =
      let a = halves _ (scan m.components (below n) 0 (lowest m.components) ls bs) h in
      let d = halves (leb n m.objects && all_zero (drop n vs)) _ a.0 in
      let b = halves (leb n m.objects) (all_zero (drop n vs)) d.0 in
      (_, held-tree m ls bs n vs ll lb (omega arith) (leb-true _ _ b.0) b.1 (not_first (eqb (get_or ls 0 0) 0) refl d.1) (sound m.components (below n) ls 0 (lowest m.components) bs (length-lowest m.components) a.1))
    where
      not_first : (x : Bool) → eqb (get_or ls 0 0) 0 ≡ x → not x ≡ true → get_or ls 0 0 ≡ 0 → ⊥
      not_first true e h = never h
      not_first false e h = eqb-false _ _ e

-- a tree's parts pass
pos-head : (f : Forest) (z : ℕ) → some f ≡ true → (get_or (flat 1 f ++ replicate z 0) 0 0 ≡ 0 → ⊥)
unfolding flat pack
pos-head none z h = never h
pos-head (level s t b kids next) z h = λ e. omega arith

module _ (m : Limits) (t : Tree) (hm : m.objects ≤ 2 ^ 32) (w : Whole m t) (y z : ℕ) where
  scan-tree : scan m.components (is_live t) 0 (lowest m.components) (flat 1 t.levels ++ replicate z 0) (map bind_word (bound t.levels) ++ replicate y 0) ≡ true
  scan-tree =
      let a = complete m.components (is_live t) (small-handles m t w hm) t.levels 1 0 0 (lowest m.components) (replicate z 0) (replicate y 0)
      w.forest (length-lowest m.components) (omega arith) (low-at m.components 1) in
      a.goes ∙ scan-spare m.components (is_live t) z a.rank a.seen (replicate y 0) (zeros-spare y)

pub held-parts : (m : Limits) (t : Tree) (ls bs os : List ℕ) → m.objects ≤ 2 ^ 32 → Held m t ls bs os → parts_ok m ls bs os ≡ true
unfolding parts_ok objects_ok pad
held-parts m t ls bs os hm h =
    rw (
      h.levels,
      h.bindings,
      h.objects,
      le-leb (length t.objects) m.objects h.whole.objects,
      drop_at t.objects (replicate (m.objects - length t.objects) 0) (length t.objects) refl,
      zeros-spare (m.objects - length t.objects),
      ne_eqb _ 0 (pos-head t.levels (m.levels - length (flat 1 t.levels)) h.whole.rooted),
    )
    (scan-tree m t hm h.whole (m.bindings - length (map bind_word (bound t.levels))) (m.levels - length (flat 1 t.levels)))
