-- Every level from the start down stands in the list once, and nothing else does. Read with its depths, the list of a forest is its paths, a level's before those below it;
-- a path is among them exactly where the definition of edits finds a level; and they rise, key by key, which is byte by byte, so that none comes twice.
use mathlib.Core.Path.{◌≡◌, refl, ap, ap₂, sym, subst, ◌∙◌}
use mathlib.Core.Bool.{Bool, true, false, cond}
use mathlib.Core.Logic.{◌⊎◌, inl, inr, ⊎_elim}
use mathlib.Core.List.Memᴰ
use mathlib.Core.List.{List, [], ◌∷◌, ◌++◌, append_assoc, append-nil, Memᴰ}
use Prim.Native.Nat.{ℕ, suc, ◌+◌, ◌-◌, ◌<◌, ◌≤◌}
use native.Mathlib.Omega.{arith}
use lib.Dec.{eqb}
use lib.ListN.{length, take, length-append}
use lib.Seq.{take_all, take_at, take-take}
use borrow.Author.Tests.{eqb-true, eq-eqb, ne_eqb}
use Rattle.pkg_length.specs.Refusal.{Answer, gives, refuses, and_then}
use Rattle.table.specs.Limits.{Limits}
use Rattle.table.specs.Tree.{Forest, none, level, Tree, Level, is_live}
use Rattle.table.specs.Edits.{level_at}
use Rattle.table.specs.Levels.{Listed, preorder, listed, levels_from, Reached, reached_from}
use Rattle.table.proofs.Shape.{Valid}
use Rattle.table.proofs.Whole.{Whole}

-- The paths of a forest.

-- siblings below the level of path p, each followed by those below it
unfoldable pub paths_below : List ℕ → Forest → List Reached
paths_below p none = []
paths_below p (level s t b kids next) = record { path = p ++ (s ∷ []); typ = t } ∷ (paths_below (p ++ (s ∷ [])) kids ++ paths_below p next)

same-reached : {p q : List ℕ} {t u : ℕ} → p ≡ q → t ≡ u → ◌≡◌ {A = Reached} (record { path = p; typ = t }) (record { path = q; typ = u })
same-reached e f = λ i. record { path = e i; typ = f i }

longer : (p : List ℕ) (s d : ℕ) → length p ≡ d → length (p ++ (s ∷ [])) ≡ suc d
longer p s d e = length-append p (s ∷ []) ∙ omega arith

within : (p q : List ℕ) (s d : ℕ) → length p ≡ d → take (suc d) q ≡ p ++ (s ∷ []) → take d q ≡ p
within p q s d e h = sym (take-take d (suc d) q (omega arith)) ∙ ap (take d) h ∙ take_at p (s ∷ []) d e

-- the list of a forest of depth d, read from any path that begins with that of the level around; what follows may look no further back
read : (f : Forest) (d : ℕ) (p q : List ℕ) (ys : List Listed) (zs : List Reached) → length p ≡ d → take d q ≡ p
    → ((q' : List ℕ) → take d q' ≡ p → reached_from q' ys ≡ zs) → reached_from q (preorder d f ++ ys) ≡ paths_below p f ++ zs
unfolding preorder paths_below reached_from
read none d p q ys zs e h k = k q h
read (level s t b kids next) d p q ys zs e h k =
    rw h
    (ap (λ (l : List Reached). record { path = p ++ (s ∷ []); typ = t } ∷ l)
    (ap (reached_from (p ++ (s ∷ []))) (append_assoc (preorder (suc d) kids) (preorder d next) ys)
    ∙ read kids (suc d) (p ++ (s ∷ [])) (p ++ (s ∷ [])) (preorder d next ++ ys) (paths_below p next ++ zs) (longer p s d e) (take_all (suc d) (p ++ (s ∷ [])) (omega (arith, longer p s d e)))
    (λ q' h'. read next d p q' ys zs e (within p q' s d e h') k)
    ∙ sym (append_assoc (paths_below (p ++ (s ∷ [])) kids) (paths_below p next) zs)))

-- What the definition of edits finds.

no-level : {T : Type 0} {l : Level} {n k : ℕ} → refuses n k ≡ gives l → T
no-level e = absurd (let z : ◌≡◌ {A = ℕ} 0 1 = cc in omega arith)

same-level : {l k : Level} → gives l ≡ gives k → l ≡ k
same-level e = cc

choose : {T : Type 0} (x : Bool) (a b : Answer Level) (l : Level) → cond x a b ≡ gives l → (x ≡ true → a ≡ gives l → T) → (x ≡ false → b ≡ gives l → T) → T
choose true a b l e y n = y refl e
choose false a b l e y n = n refl e

-- a level's segment is its path's last key
own_key : (f : Forest) (n : ℕ) (p : List ℕ) (l : Level) → level_at n f p ≡ gives l → take (length p - 1) p ++ (l.segment ∷ []) ≡ p
unfolding level_at
own_key none n p l e = no-level e
own_key (level s' t b kids next) n [] l e = no-level e
own_key (level s' t b kids next) n (s ∷ []) l e =
    choose (eqb s' s) _ _ l e
    (λ x h. ap (λ (k : ℕ). k ∷ []) (sym (ap (λ (l : Level). l.segment) (same-level h)) ∙ eqb-true s' s x))
    (λ x h. own_key next n (s ∷ []) l h)
own_key (level s' t b kids next) n (s ∷ y ∷ q) l e =
    choose (eqb s' s) _ _ l e
    (λ x h.
    let less : length (s ∷ y ∷ q) - 1 ≡ suc (length (y ∷ q) - 1) = omega arith in
    rw less (ap (λ (k : List ℕ). s ∷ k) (own_key kids (suc n) (y ∷ q) l h)))
    (λ x h. own_key next n (s ∷ y ∷ q) l h)

-- a path that goes on is found among the children
on_below : (f : Forest) (n : ℕ) (p : List ℕ) (l : Level) (x : ℕ) (q : List ℕ) → level_at n f p ≡ gives l → level_at n f (p ++ (x ∷ q)) ≡ level_at (n + length p) l.children (x ∷ q)
unfolding level_at
on_below none n p l x q e = no-level e
on_below (level s' t b kids next) n [] l x q e = no-level e
on_below (level s' t b kids next) n (s ∷ []) l x q e =
    choose (eqb s' s) _ _ l e
    (λ y h. rw y (ap₂ (λ k l. level_at k l.children (x ∷ q)) (one n) (same-level h)))
    (λ y h. rw y (on_below next n (s ∷ []) l x q h))
  where
    one : (n : ℕ) → suc n ≡ n + 1
    one n = omega arith
on_below (level s' t b kids next) n (s ∷ z ∷ p) l x q e =
    choose (eqb s' s) _ _ l e
    (λ y h. rw y (on_below kids (suc n) (z ∷ p) l x q h ∙ ap (λ (k : ℕ). level_at k l.children (x ∷ q)) (both n (length p))))
    (λ y h. rw y (on_below next n (s ∷ z ∷ p) l x q h))
  where
    both : (n k : ℕ) → suc n + suc k ≡ n + suc (suc k)
    both n k = omega arith

-- every level that is found is among the paths
every : (f : Forest) (n : ℕ) (p : List ℕ) (s : ℕ) (q : List ℕ) (l : Level) → level_at n f (s ∷ q) ≡ gives l → Memᴰ (record { path = p ++ (s ∷ q); typ = l.typ }) (paths_below p f)
unfolding level_at paths_below
every none n p s q l e = no-level e
every (level s' t b kids next) n p s [] l e =
    choose (eqb s' s) _ _ l e
    (λ x h. Memᴰ.head (same-reached (ap (λ (k : ℕ). p ++ (k ∷ [])) (sym (eqb-true s' s x))) (sym (ap (λ (l : Level). l.typ) (same-level h)))))
    (λ x h. Memᴰ.tail (Memᴰ.append_right (paths_below (p ++ (s' ∷ [])) kids) (every next n p s [] l h)))
every (level s' t b kids next) n p s (y ∷ q) l e =
    choose (eqb s' s) _ _ l e
    (λ x h. Memᴰ.tail (Memᴰ.append_left (paths_below p next)
    (subst (λ (r : List ℕ). Memᴰ (record { path = r; typ = l.typ }) (paths_below (p ++ (s' ∷ [])) kids))
    (append_assoc p (s' ∷ []) (y ∷ q) ∙ ap (λ (k : ℕ). p ++ (k ∷ y ∷ q)) (eqb-true s' s x)) (every kids (suc n) (p ++ (s' ∷ [])) y q l h))))
    (λ x h. Memᴰ.tail (Memᴰ.append_right (paths_below (p ++ (s' ∷ [])) kids) (every next n p s (y ∷ q) l h)))

-- a path that is found among siblings from lo on, with its level's type
pub record Live (f : Forest) (lo : ℕ) (p : List ℕ) (y : Reached) : Type 0 where
  pub first : ℕ
  pub rest : List ℕ
  pub there : Level
  pub path : y.path ≡ p ++ (first ∷ rest)
  pub low : lo ≤ first
  pub finds : (n : ℕ) → level_at n f (first ∷ rest) ≡ gives there
  pub typ : y.typ ≡ there.typ

module _ (limit : ℕ) (live : ℕ → Bool) where
  only : (f : Forest) (r lo : ℕ) (p : List ℕ) (y : Reached) → Valid limit live r lo f → Memᴰ y (paths_below p f) → Live f lo p y
  unfolding paths_below level_at
  only none r lo p y v m = absurd (Memᴰ.not-nil m)
  only (level s t b kids next) r lo p y v m =
      ⊎_elim
      (λ e. record { first = s; rest = []; there = record { segment = s; typ = t; bindings = b; children = kids }; path = ap (λ (y : Reached). y.path) e; low = v.0.rises; finds = λ n. rw (eq-eqb s s refl); typ = ap (λ (y : Reached). y.typ) e })
      (λ k. ⊎_elim (λ i. inside (only kids (suc r) 0 (p ++ (s ∷ [])) y v.1 i)) (λ i. later (only next r (suc s) p y v.2 i)) (Memᴰ.append_cases (paths_below (p ++ (s ∷ [])) kids) k))
      (Memᴰ.cases_cons m)
    where
      inside : Live kids 0 (p ++ (s ∷ [])) y → Live (level s t b kids next) lo p y
      inside g =
          record {
            first = s;
            rest = g.first ∷ g.rest;
            there = g.there;
            path = g.path ∙ append_assoc p (s ∷ []) (g.first ∷ g.rest);
            low = v.0.rises;
            finds = λ n. rw (eq-eqb s s refl) (g.finds (suc n));
            typ = g.typ;
          }

      past : (n x : ℕ) (q : List ℕ) (l : Level) → (s ≡ x → ⊥) → level_at n next (x ∷ q) ≡ gives l → level_at n (level s t b kids next) (x ∷ q) ≡ gives l
      past n x [] l d e = rw (ne_eqb s x d) e
      past n x (z ∷ q) l d e = rw (ne_eqb s x d) e

      later : Live next (suc s) p y → Live (level s t b kids next) lo p y
      later g =
          record {
            first = g.first;
            rest = g.rest;
            there = g.there;
            path = g.path;
            low = omega (arith, g.low, v.0.rises);
            finds = λ n. past n g.first g.rest g.there (λ e. omega (arith, g.low)) (g.finds n);
            typ = g.typ;
          }

-- The order of paths: key by key, a path before those that go on from it.

abbrev pub Before : List ℕ → List ℕ → Type 0
Before p [] = ⊥
Before [] (y ∷ q) = Unit {0}
Before (x ∷ p) (y ∷ q) = (x < y) ⊎ ((x ≡ y) × Before p q)

before_more : (p : List ℕ) (x : ℕ) (q : List ℕ) → Before p (p ++ (x ∷ q))
before_more [] x q = tt
before_more (y ∷ p) x q = inr (refl, before_more p x q)

before-apart : (p : List ℕ) (x y : ℕ) (q r : List ℕ) → x < y → Before (p ++ (x ∷ q)) (p ++ (y ∷ r))
before-apart [] x y q r h = inl h
before-apart (z ∷ p) x y q r h = inr (refl, before-apart p x y q r h)

before-not : (p : List ℕ) → Before p p → ⊥
before-not [] h = h
before-not (x ∷ p) (inl h) = omega arith
before-not (x ∷ p) (inr h) = before-not p h.1

-- a list in which each comes before all that follow
unfoldable pub Rises : List Reached → Type 0
Rises [] = Unit {0}
Rises (x ∷ xs) = ((y : Reached) → Memᴰ y xs → Before x.path y.path) × Rises xs

rises-append : (xs ys : List Reached) → Rises xs → Rises ys → ((x y : Reached) → Memᴰ x xs → Memᴰ y ys → Before x.path y.path) → Rises (xs ++ ys)
unfolding Rises
rises-append [] ys h k c = k
rises-append (x ∷ xs) ys h k c =
    ((λ y m. ⊎_elim (h.0 y) (c x y (Memᴰ.head refl)) (Memᴰ.append_cases xs m)), rises-append xs ys h.1 k (λ z y i j. c z y (Memᴰ.tail i) j))

-- so no path comes twice
pub never-twice : (xs ys zs : List Reached) (x y : Reached) → Rises (xs ++ (x ∷ (ys ++ (y ∷ zs)))) → x.path ≡ y.path → ⊥
unfolding Rises
never-twice [] ys zs x y h e = before-not y.path (subst (λ (p : List ℕ). Before p y.path) e (h.0 y (Memᴰ.append_right ys (Memᴰ.head refl))))
never-twice (w ∷ xs) ys zs x y h e = never-twice xs ys zs x y h.1 e

module _ (limit : ℕ) (live : ℕ → Bool) where
  rises : (f : Forest) (r lo : ℕ) (p : List ℕ) → Valid limit live r lo f → Rises (paths_below p f)
  unfolding paths_below Rises
  rises none r lo p v = tt
  rises (level s t b kids next) r lo p v = (
    (λ y m. ⊎_elim (λ i. down y (only limit live kids (suc r) 0 (p ++ (s ∷ [])) y v.1 i)) (λ i. on [] y (only limit live next r (suc s) p y v.2 i)) (Memᴰ.append_cases (paths_below (p ++ (s ∷ [])) kids) m)),
    rises-append (paths_below (p ++ (s ∷ [])) kids) (paths_below p next) (rises kids (suc r) 0 (p ++ (s ∷ [])) v.1) (rises next r (suc s) p v.2)
        (λ x y i j. across x y (only limit live kids (suc r) 0 (p ++ (s ∷ [])) x v.1 i) (only limit live next r (suc s) p y v.2 j)),
  )
    where
      down : (y : Reached) → Live kids 0 (p ++ (s ∷ [])) y → Before (p ++ (s ∷ [])) y.path
      down y g = subst (Before (p ++ (s ∷ []))) (sym g.path) (before_more (p ++ (s ∷ [])) g.first g.rest)

      on : (q : List ℕ) (y : Reached) → Live next (suc s) p y → Before (p ++ (s ∷ q)) y.path
      on q y g = subst (Before (p ++ (s ∷ q))) (sym g.path) (before-apart p s g.first q g.rest (omega (arith, g.low)))

      across : (x y : Reached) → Live kids 0 (p ++ (s ∷ [])) x → Live next (suc s) p y → Before x.path y.path
      across x y g h = subst (λ (q : List ℕ). Before q y.path) (sym (g.path ∙ append_assoc p (s ∷ []) (g.first ∷ g.rest))) (on (g.first ∷ g.rest) y h)

-- a path that is p or goes on from it, where a level is found, with that level's type
pub record LiveFrom (t : Tree) (p : List ℕ) (y : Reached) : Type 0 where
  pub rest : List ℕ
  pub there : Level
  pub path : y.path ≡ p ++ rest
  pub finds : level_at 0 t.levels (p ++ rest) ≡ gives there
  pub typ : y.typ ≡ there.typ

-- Every level from the start down once, and no other: the list of levels from the one at p down, read with its depths.
pub record EveryLevelOnce (t : Tree) (p : List ℕ) (xs : List Listed) : Type 0 where
  -- a level that is found at p or below it stands in the list, with its type
  pub every_one : (q : List ℕ) (l : Level) → level_at 0 t.levels (p ++ q) ≡ gives l → Memᴰ (record { path = p ++ q; typ = l.typ }) (reached_from p xs)
  -- what stands in the list is such a level
  pub no_other : (y : Reached) → Memᴰ y (reached_from p xs) → LiveFrom t p y
  -- the paths rise, so none comes twice (`never-twice`), a level comes before those below it, and siblings in byte order
  pub once : Rises (reached_from p xs)

-- the children of a level that is found are siblings like any others
children-valid : (limit : ℕ) (live : ℕ → Bool) (f : Forest) (r lo n : ℕ) (p : List ℕ) (l : Level) → Valid limit live r lo f → level_at n f p ≡ gives l → Valid limit live (r + length p) 0 l.children
unfolding level_at
children-valid limit live none r lo n p l v e = no-level e
children-valid limit live (level s' t b kids next) r lo n [] l v e = no-level e
children-valid limit live (level s' t b kids next) r lo n (s ∷ []) l v e =
    choose (eqb s' s) _ _ l e
    (λ x h. subst (λ (l : Level). Valid limit live (r + 1) 0 l.children) (same-level h) (subst (λ (k : ℕ). Valid limit live k 0 kids) (one r) v.1))
    (λ x h. children-valid limit live next r (suc s') n (s ∷ []) l v.2 h)
  where
    one : (n : ℕ) → suc n ≡ n + 1
    one n = omega arith
children-valid limit live (level s' t b kids next) r lo n (s ∷ y ∷ p) l v e =
    choose (eqb s' s) _ _ l e
    (λ x h. subst (λ (k : ℕ). Valid limit live k 0 l.children) (both r (length p)) (children-valid limit live kids (suc r) 0 (suc n) (y ∷ p) l v.1 h))
    (λ x h. children-valid limit live next r (suc s') n (s ∷ y ∷ p) l v.2 h)
  where
    both : (n k : ℕ) → suc n + suc k ≡ n + suc (suc k)
    both n k = omega arith

module _ (m : Limits) (t : Tree) (w : Whole m t) (p : List ℕ) (l : Level) (e : level_at 0 t.levels p ≡ gives l) where
  abbrev kids : Forest
  kids = l.children

  valid-below : Valid m.components (is_live t) (1 + length p) 0 kids
  valid-below = children-valid m.components (is_live t) t.levels 1 0 0 p l w.forest e

  -- the list's paths: the start's own, and those below it
  list-is : reached_from p (listed (length p - 1) l) ≡ record { path = p; typ = l.typ } ∷ paths_below p kids
  unfolding reached_from
  list-is =
      rw (own_key t.levels 0 p l e)
      (ap (λ (xs : List Reached). record { path = p; typ = l.typ } ∷ xs)
      (ap (reached_from p) (sym (append-nil (preorder (suc (length p - 1)) kids)))
      ∙ read kids (suc (length p - 1)) p p [] [] deep (take_all (suc (length p - 1)) p (omega arith)) (λ q h. refl)
      ∙ append-nil (paths_below p kids)))
    where
      deep : length p ≡ suc (length p - 1)
      deep = omega (arith, ap length (own_key t.levels 0 p l e), length-append (take (length p - 1) p) (l.segment ∷ []))

  stands : (q : List ℕ) (k : Level) → level_at 0 t.levels (p ++ q) ≡ gives k → Memᴰ (record { path = p ++ q; typ = k.typ }) (record { path = p; typ = l.typ } ∷ paths_below p kids)
  stands [] k h =
      Memᴰ.head (same-reached (append-nil p) (ap (λ (l : Level). l.typ) (same-level (sym h ∙ ap (level_at 0 t.levels) (append-nil p) ∙ e))))
  stands (x ∷ q) k h = Memᴰ.tail (every kids (0 + length p) p x q k (sym (on_below t.levels 0 p l x q e) ∙ h))

  was : (y : Reached) → Memᴰ y (record { path = p; typ = l.typ } ∷ paths_below p kids) → LiveFrom t p y
  was y i =
      ⊎_elim
      (λ x. record { rest = []; there = l; path = ap (λ (y : Reached). y.path) x ∙ sym (append-nil p); finds = ap (level_at 0 t.levels) (append-nil p) ∙ e; typ = ap (λ (y : Reached). y.typ) x })
      (λ j. let g = only m.components (is_live t) kids (1 + length p) 0 p y valid-below j in
      record { rest = g.first ∷ g.rest; there = g.there; path = g.path; finds = on_below t.levels 0 p l g.first g.rest e ∙ g.finds (0 + length p); typ = g.typ })
      (Memᴰ.cases_cons i)

  order : Rises (record { path = p; typ = l.typ } ∷ paths_below p kids)
  unfolding Rises
  order = (
    (λ y i. let g = only m.components (is_live t) kids (1 + length p) 0 p y valid-below i in
        subst (Before p) (sym g.path) (before_more p g.first g.rest)),
    rises m.components (is_live t) kids (1 + length p) 0 p valid-below,
  )

  all_of : EveryLevelOnce t p (listed (length p - 1) l)
  all_of =
      record {
        every_one = λ q k h. subst (Memᴰ (record { path = p ++ q; typ = k.typ })) (sym list-is) (stands q k h);
        no_other = λ y i. was y (subst (Memᴰ y) list-is i);
        once = subst Rises (sym list-is) order;
      }

pub every-level-once : (m : Limits) (t : Tree) → Whole m t → (p : List ℕ) (xs : List Listed) → levels_from t p ≡ gives xs → EveryLevelOnce t p xs
unfolding levels_from
every-level-once m t w p xs e = go (level_at 0 t.levels p) refl e
  where
    same : {a b : List Listed} → gives a ≡ gives b → a ≡ b
    same e = cc

    go : (a : Answer Level) → level_at 0 t.levels p ≡ a → and_then a (λ l. gives (listed (length p - 1) l)) ≡ gives xs → EveryLevelOnce t p xs
    go (gives l) h e = subst (EveryLevelOnce t p) (same e) (all_of m t w p l h)
    go (refuses n k) h e = absurd (let z : ◌≡◌ {A = ℕ} 0 1 = cc in omega arith)
