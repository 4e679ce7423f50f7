-- What an edit leaves of the rest, on trees: what was added is found, what was removed is gone, and every other name, level and object answers as before.
use mathlib.Core.Path.{◌≡◌, refl, ap, sym, subst, ◌∙◌}
use mathlib.Core.Bool.{Bool, true, false, cond, ◌&&◌, ◌||◌}
use mathlib.Core.List.{List, [], ◌∷◌, ◌++◌, append-nil}
use Prim.Native.Nat.{ℕ, suc, ◌+◌, ◌-◌, ◌<◌, ◌≤◌}
use native.Mathlib.Omega.{arith}
use lib.Dec.{leb, ltb, eqb}
use lib.ListN.{length, get_or, set, length-append, length-take, length-set, get_or-append}
use lib.Seq.{get_or_at, get_or-set_same, get_or-set_other}
use borrow.Author.Tests.{eq-eqb, ne_eqb, eqb-true, leb-false, lt-leb, lt-ltb, le-ltb, ltb-true, ltb-false}
use Rattle.pkg_length.proofs.Answers.{halves, never, wrong, refuses-not, gives_same}
use Rattle.pkg_length.specs.Refusal.{Answer, gives, refuses, and_then}
use Rattle.table.specs.Limits.{Limits}
use Rattle.table.specs.Tree.{Binding, Forest, none, level, Tree, Level, is_live, bound, level_count}
use Rattle.table.specs.Memory.{Edited}
use Rattle.table.specs.Edits.{reached, level_at, Change, alter, scope_of, last_of, has_level, insert_level, insert_binding, with_child, with_binding, without, with_levels, with_objects, next_handle, handle_in, is_bound, add_level_answer, remove_level_answer, look_up_answer, bind, add_value_answer, add_alias_answer, value_of, set_value}
use Rattle.table.proofs.Shape.{Valid}
use Rattle.table.proofs.Whole.{Whole}
use Rattle.table.proofs.Levels.{made, level-hit, level-miss, alter-hit, alter-miss}
use Rattle.table.proofs.Seek.{late}
use Rattle.table.proofs.Held.{split-last}

-- Paths.

-- the path q is p, or leads below it
unfoldable pub under : List ℕ → List ℕ → Bool
under [] q = true
under (x ∷ p) [] = false
under (x ∷ p) (y ∷ q) = eqb x y && under p q

same-eqb : (x : ℕ) → eqb x x ≡ true
same-eqb x = eq-eqb x x refl

pub under_more : (p a b : List ℕ) → under (p ++ a) (p ++ b) ≡ under a b
unfolding under
under_more [] a b = refl
under_more (x ∷ p) a b = rw (same-eqb x) (under_more p a b)

pub under_rest : (p q : List ℕ) → under p q ≡ true → (r : List ℕ) × (q ≡ p ++ r)
unfolding under
under_rest [] q h = (q, refl)
under_rest (x ∷ p) [] h = never h
under_rest (x ∷ p) (y ∷ q) h = go (eqb x y) refl (under_rest p q) h
  where
    go : (e : Bool) → eqb x y ≡ e → (under p q ≡ true → (r : List ℕ) × (q ≡ p ++ r)) → e && under p q ≡ true → (r : List ℕ) × (y ∷ q ≡ x ∷ (p ++ r))
    go true e i h =
        let k = i h in
        (k.0, λ j. sym (eqb-true x y e) j ∷ (k.1 j))
    go false e i h = never h

under_one : (x y : ℕ) (q : List ℕ) → under (x ∷ []) (y ∷ q) ≡ eqb x y && true
unfolding under
under_one x y q = refl

under_same : (p : List ℕ) → under p p ≡ true
unfolding under
under_same [] = refl
under_same (x ∷ p) = rw (same-eqb x) (under_same p)

under-both : (p q : List ℕ) → under p q ≡ true → under q p ≡ true → p ≡ q
unfolding under
under-both [] [] h k = refl
under-both [] (y ∷ q) h k = never k
under-both (x ∷ p) [] h k = never h
under-both (x ∷ p) (y ∷ q) h k =
    let a = halves (eqb x y) (under p q) h in
    let b = halves (eqb y x) (under q p) k in
    let e = under-both p q a.1 b.1 in
    λ i. eqb-true x y a.0 i ∷ e i

-- Levels.

-- what a level holds, its children aside
abbrev pub held : Answer Level → Answer (List Binding)
held a = and_then a (λ l. gives l.bindings)

-- a level and then a path from it, n segments being behind
abbrev inside : ℕ → Level → List ℕ → Answer Level
inside n l q = reached q (gives l) (level_at (suc n) l.children q)

abbrev altered : Change → ℕ → ℕ → List Binding → Forest → Forest → List ℕ → Forest
altered g s t b kids next p = reached p (g s t b kids next) (level s t b (alter g kids p) next)

level-none : (n : ℕ) (p : List ℕ) → level_at n none p ≡ refuses 15 n
unfolding level_at
level-none n p = refl

level-nil : (n : ℕ) (f : Forest) → level_at n f [] ≡ refuses 15 n
unfolding level_at
level-nil n none = refl
level-nil n (level s t b kids next) = refl

-- a change leaves the level's later siblings
abbrev Sibling : Change → Type 0
Sibling g = (s t : ℕ) (b : List Binding) (kids next : Forest) (n y : ℕ) (q : List ℕ) → eqb s y ≡ false → level_at n (g s t b kids next) (y ∷ q) ≡ level_at n next (y ∷ q)

-- what is not at or below the changed level holds what it held
module _ (g : Change) (later : Sibling g) where
  frame : (f : Forest) (p q : List ℕ) (n : ℕ) → under p q ≡ false → held (level_at n (alter g f p) q) ≡ held (level_at n f q)
  unfolding under
  frame none p q n u = unfold alter in refl
  frame (level s' t b kids next) [] q n u = never (sym u)
  frame (level s' t b kids next) (s ∷ p) [] n u =
      ap held (level-nil n (alter g (level s' t b kids next) (s ∷ p)) ∙ sym (level-nil n (level s' t b kids next)))
  frame (level s' t b kids next) (s ∷ p) (y ∷ q) n u = go (eqb s' s) (eqb s' y) refl refl (frame kids) (frame next (s ∷ p) (y ∷ q) n u)
    where
      meet : eqb s' s ≡ true → eqb s' y ≡ true → eqb s y && under p q ≡ false → under p q ≡ false
      meet d e h = sym (rw (eq-eqb s y (sym (eqb-true s' s d) ∙ eqb-true s' y e))) ∙ h

      below : (p q : List ℕ) → under p q ≡ false → ((p q : List ℕ) (n : ℕ) → under p q ≡ false → held (level_at n (alter g kids p) q) ≡ held (level_at n kids q))
          → (d : eqb s' s ≡ true) → (e : eqb s' y ≡ true) → held (level_at n (altered g s' t b kids next p) (y ∷ q)) ≡ held (inside n (made s' t b kids) q)
      below [] q h i d e = never (sym h)
      below (x ∷ p) [] h i d e = ap held (level-hit s' t b (alter g kids (x ∷ p)) next y n [] e)
      below (x ∷ p) (z ∷ q) h i d e = ap held (level-hit s' t b (alter g kids (x ∷ p)) next y n (z ∷ q) e) ∙ i (x ∷ p) (z ∷ q) (suc n) h

      aside : (p : List ℕ) → eqb s' y ≡ false → level_at n (altered g s' t b kids next p) (y ∷ q) ≡ level_at n next (y ∷ q)
      aside [] e = later s' t b kids next n y q e
      aside (x ∷ p) e = level-miss s' t b (alter g kids (x ∷ p)) next y n q e

      go : (x z : Bool) → eqb s' s ≡ x → eqb s' y ≡ z → ((p q : List ℕ) (n : ℕ) → under p q ≡ false → held (level_at n (alter g kids p) q) ≡ held (level_at n kids q))
          → held (level_at n (alter g next (s ∷ p)) (y ∷ q)) ≡ held (level_at n next (y ∷ q))
          → held (level_at n (alter g (level s' t b kids next) (s ∷ p)) (y ∷ q)) ≡ held (level_at n (level s' t b kids next) (y ∷ q))
      go true true d e i j =
          ap (λ (f : Forest). held (level_at n f (y ∷ q))) (alter-hit s' t b kids next s g p d)
          ∙ below p q (meet d e u) i d e ∙ sym (ap held (level-hit s' t b kids next y n q e))
      go true false d e i j =
          ap (λ (f : Forest). held (level_at n f (y ∷ q))) (alter-hit s' t b kids next s g p d)
          ∙ ap held (aside p e ∙ sym (level-miss s' t b kids next y n q e))
      go false true d e i j =
          ap (λ (f : Forest). held (level_at n f (y ∷ q))) (alter-miss s' t b kids next s g p d)
          ∙ ap held (level-hit s' t b kids (alter g next (s ∷ p)) y n q e ∙ sym (level-hit s' t b kids next y n q e))
      go false false d e i j =
          ap (λ (f : Forest). held (level_at n f (y ∷ q))) (alter-miss s' t b kids next s g p d)
          ∙ ap held (level-miss s' t b kids (alter g next (s ∷ p)) y n q e) ∙ j ∙ sym (ap held (level-miss s' t b kids next y n q e))

-- a level kept in its place, with other bindings and children
unfoldable kept : (List Binding → List Binding) → (Forest → Forest) → Change
kept bs ks s t b kids next = level s t (bs b) (ks kids) next

kept-is : (bs : List Binding → List Binding) (ks : Forest → Forest) (s t : ℕ) (b : List Binding) (kids next : Forest) → kept bs ks s t b kids next ≡ level s t (bs b) (ks kids) next
unfolding kept
kept-is bs ks s t b kids next = refl

kept-later : (bs : List Binding → List Binding) (ks : Forest → Forest) → Sibling (kept bs ks)
unfolding kept
kept-later bs ks s t b kids next n y q e = level-miss s t (bs b) (ks kids) next y n q e

-- what stands at a path, and all paths from there
record Stands (n : ℕ) (f : Forest) (p : List ℕ) (bs : List Binding) (kids : Forest) : Type 0 where
  at : Level
  binds : at.bindings ≡ bs
  below : at.children ≡ kids
  all : (r : List ℕ) → level_at n f (p ++ r) ≡ inside (n + (length p - 1)) at r

module _ (bs : List Binding → List Binding) (ks : Forest → Forest) where
  stands : (f : Forest) (p : List ℕ) (n : ℕ) (l : Level) → level_at n f p ≡ gives l → Stands n (alter (kept bs ks) f p) p (bs l.bindings) (ks l.children)
  stands none p n l h = refuses-not (sym (level-none n p) ∙ h)
  stands (level s' t b kids next) [] n l h = refuses-not (sym (level-nil n (level s' t b kids next)) ∙ h)
  stands (level s' t b kids next) (s ∷ p) n l h = go p (eqb s' s) refl (stands kids) (stands next (s ∷ p) n l) h
    where
      go : (p : List ℕ) (e : Bool) → eqb s' s ≡ e
          → ((p : List ℕ) (n : ℕ) (l : Level) → level_at n kids p ≡ gives l → Stands n (alter (kept bs ks) kids p) p (bs l.bindings) (ks l.children))
          → (level_at n next (s ∷ p) ≡ gives l → Stands n (alter (kept bs ks) next (s ∷ p)) (s ∷ p) (bs l.bindings) (ks l.children))
          → level_at n (level s' t b kids next) (s ∷ p) ≡ gives l
          → Stands n (alter (kept bs ks) (level s' t b kids next) (s ∷ p)) (s ∷ p) (bs l.bindings) (ks l.children)
      go [] true e i j h =
          let k : made s' t b kids ≡ l = gives_same (sym (level-hit s' t b kids next s n [] e) ∙ h) in
          record {
            at = made s' t (bs b) (ks kids);
            binds = ap (λ (x : Level). bs x.bindings) k;
            below = ap (λ (x : Level). ks x.children) k;
            all = λ r. ap (λ (f : Forest). level_at n f (s ∷ r)) (alter-hit s' t b kids next s (kept bs ks) [] e ∙ kept-is bs ks s' t b kids next)
                ∙ level-hit s' t (bs b) (ks kids) next s n r e ∙ ap (λ (k : ℕ). inside k (made s' t (bs b) (ks kids)) r) (first n);
          }
        where
          first : (n : ℕ) → n ≡ n + (1 - 1)
          first n = omega arith
      go (x ∷ p) true e i j h =
          let k = i (x ∷ p) (suc n) l (sym (level-hit s' t b kids next s n (x ∷ p) e) ∙ h) in
          record {
            at = k.at;
            binds = k.binds;
            below = k.below;
            all = λ r. ap (λ (f : Forest). level_at n f (s ∷ x ∷ (p ++ r))) (alter-hit s' t b kids next s (kept bs ks) (x ∷ p) e)
                ∙ level-hit s' t b (alter (kept bs ks) kids (x ∷ p)) next s n (x ∷ (p ++ r)) e ∙ k.all r ∙ ap (λ (m : ℕ). inside m k.at r) (deeper n (length p));
          }
        where
          deeper : (n k : ℕ) → suc n + (suc k - 1) ≡ n + (suc (suc k) - 1)
          deeper n k = omega arith
      go p false e i j h =
          let k = j (sym (level-miss s' t b kids next s n p e) ∙ h) in
          record {
            at = k.at;
            binds = k.binds;
            below = k.below;
            all = λ r. ap (λ (f : Forest). level_at n f (s ∷ (p ++ r))) (alter-miss s' t b kids next s (kept bs ks) p e)
                ∙ level-miss s' t b kids (alter (kept bs ks) next (s ∷ p)) s n (p ++ r) e ∙ k.all r;
          }

-- a level that stays as it is
alter-same : (f : Forest) (p : List ℕ) → alter (kept (λ b. b) (λ k. k)) f p ≡ f
unfolding alter kept
alter-same none p = refl
alter-same (level s' t b kids next) [] = refl
alter-same (level s' t b kids next) (s ∷ p) = go p (eqb s' s) (alter-same kids) (alter-same next (s ∷ p))
  where
    go : (p : List ℕ) (e : Bool) → ((p : List ℕ) → alter (kept (λ b. b) (λ k. k)) kids p ≡ kids) → alter (kept (λ b. b) (λ k. k)) next (s ∷ p) ≡ next
        → cond e (reached p (level s' t b kids next) (level s' t b (alter (kept (λ b. b) (λ k. k)) kids p) next)) (level s' t b kids (alter (kept (λ b. b) (λ k. k)) next (s ∷ p))) ≡ level s' t b kids next
    go [] true i j = refl
    go (x ∷ p) true i j = ap (λ (k : Forest). level s' t b k next) (i (x ∷ p))
    go p false i j = ap (level s' t b kids) j

stood : (f : Forest) (p : List ℕ) (n : ℕ) (l : Level) → level_at n f p ≡ gives l → Stands n f p l.bindings l.children
stood f p n l h = subst (λ (g : Forest). Stands n g p l.bindings l.children) (alter-same f p) (stands (λ b. b) (λ k. k) f p n l h)

-- a level that is gone: no path at or below it leads anywhere
without_is : (s t : ℕ) (b : List Binding) (kids next : Forest) → without s t b kids next ≡ next
unfolding without
without_is s t b kids next = refl

without-later : Sibling without
unfolding without
without-later s t b kids next n y q e = refl

module _ (limit : ℕ) (live : ℕ → Bool) where
  gone : (f : Forest) (p r : List ℕ) (n rank lo : ℕ) (l : Level) → Valid limit live rank lo f → level_at n f p ≡ gives l → level_at n (alter without f p) (p ++ r) ≡ refuses 15 (n + (length p - 1))
  gone none p r n rank lo l v h = refuses-not (sym (level-none n p) ∙ h)
  gone (level s' t b kids next) [] r n rank lo l v h = refuses-not (sym (level-nil n (level s' t b kids next)) ∙ h)
  gone (level s' t b kids next) (s ∷ p) r n rank lo l v h =
      go p (eqb s' s) refl (λ p n h. gone kids p r n (suc rank) 0 l v.1 h) (gone next (s ∷ p) r n rank (suc s') l v.2) h
    where
      go : (p : List ℕ) (e : Bool) → eqb s' s ≡ e → ((p : List ℕ) (n : ℕ) → level_at n kids p ≡ gives l → level_at n (alter without kids p) (p ++ r) ≡ refuses 15 (n + (length p - 1)))
          → (level_at n next (s ∷ p) ≡ gives l → level_at n (alter without next (s ∷ p)) (s ∷ (p ++ r)) ≡ refuses 15 (n + (suc (length p) - 1)))
          → level_at n (level s' t b kids next) (s ∷ p) ≡ gives l → level_at n (alter without (level s' t b kids next) (s ∷ p)) (s ∷ (p ++ r)) ≡ refuses 15 (n + (suc (length p) - 1))
      go [] true e i j h =
          ap (λ (f : Forest). level_at n f (s ∷ r)) (alter-hit s' t b kids next s without [] e ∙ without_is s' t b kids next)
          ∙ late limit live next rank (suc s') n s r v.2 (omega (arith, eqb-true s' s e)) ∙ ap (refuses 15) (first n)
        where
          first : (n : ℕ) → n ≡ n + (1 - 1)
          first n = omega arith
      go (x ∷ p) true e i j h =
          ap (λ (f : Forest). level_at n f (s ∷ x ∷ (p ++ r))) (alter-hit s' t b kids next s without (x ∷ p) e)
          ∙ level-hit s' t b (alter without kids (x ∷ p)) next s n (x ∷ (p ++ r)) e
          ∙ i (x ∷ p) (suc n) (sym (level-hit s' t b kids next s n (x ∷ p) e) ∙ h) ∙ ap (refuses 15) (deeper n (length p))
        where
          deeper : (n k : ℕ) → suc n + (suc k - 1) ≡ n + (suc (suc k) - 1)
          deeper n k = omega arith
      go p false e i j h =
          ap (λ (f : Forest). level_at n f (s ∷ (p ++ r))) (alter-miss s' t b kids next s without p e)
          ∙ level-miss s' t b kids (alter without next (s ∷ p)) s n (p ++ r) e ∙ j (sym (level-miss s' t b kids next s n p e) ∙ h)

-- a new level among siblings
has-level : (s : ℕ) (f : Forest) (n : ℕ) → has_level s f ≡ true → (l : Level) × (level_at n f (s ∷ []) ≡ gives l)
unfolding has_level
has-level s none n h = never h
has-level s (level s' t b kids next) n h = go (eqb s' s) refl (has-level s next n) h
  where
    go : (e : Bool) → eqb s' s ≡ e → (has_level s next ≡ true → (l : Level) × (level_at n next (s ∷ []) ≡ gives l)) → e || has_level s next ≡ true
        → (l : Level) × (level_at n (level s' t b kids next) (s ∷ []) ≡ gives l)
    go true e i h = (made s' t b kids, level-hit s' t b kids next s n [] e)
    go false e i h = let k = i h in (k.0, level-miss s' t b kids next s n [] e ∙ k.1)

insert-found : (s typ : ℕ) (f : Forest) (n : ℕ) (q : List ℕ) → has_level s f ≡ false → level_at n (insert_level s typ f) (s ∷ q) ≡ inside n (made s typ [] none) q
unfolding insert_level has_level
insert-found s typ none n q h = level-hit s typ [] none none s n q (same-eqb s)
insert-found s typ (level s' t b kids next) n q h = go (ltb s s') (eqb s' s) refl (insert-found s typ next n q) h
  where
    go : (x e : Bool) → eqb s' s ≡ e → (has_level s next ≡ false → level_at n (insert_level s typ next) (s ∷ q) ≡ inside n (made s typ [] none) q) → e || has_level s next ≡ false
        → level_at n (cond x (level s typ [] none (level s' t b kids next)) (level s' t b kids (insert_level s typ next))) (s ∷ q) ≡ inside n (made s typ [] none) q
    go true e d i h = level-hit s typ [] none (level s' t b kids next) s n q (same-eqb s)
    go false true d i h = never (sym h)
    go false false d i h = level-miss s' t b kids (insert_level s typ next) s n q d ∙ i h

insert-other : (s typ y : ℕ) (f : Forest) (n : ℕ) (q : List ℕ) → eqb s y ≡ false → level_at n (insert_level s typ f) (y ∷ q) ≡ level_at n f (y ∷ q)
unfolding insert_level
insert-other s typ y none n q h = level-miss s typ [] none none y n q h
insert-other s typ y (level s' t b kids next) n q h = go (ltb s s') (eqb s' y) refl (insert-other s typ y next n q h)
  where
    go : (x e : Bool) → eqb s' y ≡ e → level_at n (insert_level s typ next) (y ∷ q) ≡ level_at n next (y ∷ q)
        → level_at n (cond x (level s typ [] none (level s' t b kids next)) (level s' t b kids (insert_level s typ next))) (y ∷ q) ≡ level_at n (level s' t b kids next) (y ∷ q)
    go true e d i = level-miss s typ [] none (level s' t b kids next) y n q h
    go false true d i = level-hit s' t b kids (insert_level s typ next) y n q d ∙ sym (level-hit s' t b kids next y n q d)
    go false false d i = level-miss s' t b kids (insert_level s typ next) y n q d ∙ i ∙ sym (level-miss s' t b kids next y n q d)

-- one binding more
bound-found : (x : Binding) (b : List Binding) → is_bound x.segment b ≡ false → handle_in x.segment (insert_binding x b) ≡ gives x.handle
unfolding insert_binding handle_in is_bound
bound-found x [] h = rw (same-eqb x.segment)
bound-found x (y ∷ b) h = go (ltb x.segment y.segment) (eqb y.segment x.segment) refl (bound-found x b) h
  where
    go : (z e : Bool) → eqb y.segment x.segment ≡ e → (is_bound x.segment b ≡ false → handle_in x.segment (insert_binding x b) ≡ gives x.handle) → e || is_bound x.segment b ≡ false
        → handle_in x.segment (cond z (x ∷ y ∷ b) (y ∷ insert_binding x b)) ≡ gives x.handle
    go true e d i h = rw (same-eqb x.segment)
    go false true d i h = never (sym h)
    go false false d i h = rw d (i h)

bound-other : (x : Binding) (s : ℕ) (b : List Binding) → eqb x.segment s ≡ false → handle_in s (insert_binding x b) ≡ handle_in s b
unfolding insert_binding handle_in
bound-other x s [] h = rw h
bound-other x s (y ∷ b) h = go (ltb x.segment y.segment) (eqb y.segment s) refl (bound-other x s b h)
  where
    go : (z e : Bool) → eqb y.segment s ≡ e → handle_in s (insert_binding x b) ≡ handle_in s b
        → handle_in s (cond z (x ∷ y ∷ b) (y ∷ insert_binding x b)) ≡ cond e (gives y.handle) (handle_in s b)
    go true e d i = rw (h, d)
    go false true d i = rw d
    go false false d i = rw d i

bound-none : (s : ℕ) (b : List Binding) → is_bound s b ≡ false → handle_in s b ≡ refuses 16 0
unfolding is_bound handle_in
bound-none s [] k = refl
bound-none s (y ∷ b) k = go (eqb y.segment s) (bound-none s b) k
  where
    go : (e : Bool) → (is_bound s b ≡ false → handle_in s b ≡ refuses 16 0) → e || is_bound s b ≡ false → cond e (gives y.handle) (handle_in s b) ≡ refuses 16 0
    go true i k = never (sym k)
    go false i k = i k

-- Trees.

-- a lookup goes by what the level around holds
look-held : (t : Tree) (q : List ℕ) → look_up_answer t q ≡ cond (leb (length q) 1) (refuses 13 0) (and_then (held (level_at 0 t.levels (scope_of q))) (handle_in (last_of q)))
unfolding look_up_answer
look-held t q = ap (cond (leb (length q) 1) (refuses 13 0)) (go (level_at 0 t.levels (scope_of q)))
  where
    go : (a : Answer Level) → and_then a (λ l. handle_in (last_of q) l.bindings) ≡ and_then (held a) (handle_in (last_of q))
    go (gives l) = refl
    go (refuses n k) = refl

look-root : (t : Tree) (q : List ℕ) → leb (length q) 1 ≡ true → look_up_answer t q ≡ refuses 13 0
look-root t q k = look-held t q ∙ (rw k)

look-same : (t u : Tree) (q : List ℕ) → held (level_at 0 u.levels (scope_of q)) ≡ held (level_at 0 t.levels (scope_of q)) → look_up_answer u q ≡ look_up_answer t q
look-same t u q e = look-held u q ∙ ap (λ (a : Answer (List Binding)). cond (leb (length q) 1) (refuses 13 0) (and_then a (handle_in (last_of q)))) e ∙ sym (look-held t q)

ended : (p : List ℕ) → 1 < length p → p ≡ scope_of p ++ (last_of p ∷ [])
ended p h = let o = split-last p h in o.all ∙ ap (λ (l : List ℕ). l ++ (last_of p ∷ [])) (sym o.scope)

-- a level added
pub record LevelAdded (t u : Tree) (p : List ℕ) : Type 0 where
  -- it is there, and holds nothing where it is new
  pub there : (l : Level) × (level_at 0 u.levels p ≡ gives l) × ((n k : ℕ) → level_at 0 t.levels p ≡ refuses n k → (l.bindings ≡ []) × (l.children ≡ none))
  -- every other level that is not below it holds what it held
  pub levels : (q : List ℕ) → under p q ≡ false → held (level_at 0 u.levels q) ≡ held (level_at 0 t.levels q)
  -- every name that is not in it or below it is bound as it was
  pub names : (q : List ℕ) → under p (scope_of q) ≡ false → look_up_answer u q ≡ look_up_answer t q
  pub objects : u.objects ≡ t.objects

-- a name more for a handle
pub record NameAdded (t u : Tree) (p : List ℕ) (h : ℕ) : Type 0 where
  pub new : look_up_answer t p ≡ refuses 16 0
  pub found : look_up_answer u p ≡ gives h
  pub names : (q : List ℕ) → (q ≡ p → ⊥) → look_up_answer u q ≡ look_up_answer t q
  pub levels : (q : List ℕ) → (q ≡ scope_of p → ⊥) → held (level_at 0 u.levels q) ≡ held (level_at 0 t.levels q)

-- a level removed
pub record LevelRemoved (t u : Tree) (p : List ℕ) : Type 0 where
  pub gone : (q : List ℕ) → under p q ≡ true → level_at 0 u.levels q ≡ refuses 15 (length p - 1)
  pub names_gone : (q : List ℕ) → under p (scope_of q) ≡ true → look_up_answer u q ≡ refuses 15 (length p - 1)
  pub levels : (q : List ℕ) → under p q ≡ false → held (level_at 0 u.levels q) ≡ held (level_at 0 t.levels q)
  pub names : (q : List ℕ) → under p (scope_of q) ≡ false → look_up_answer u q ≡ look_up_answer t q
  pub objects : u.objects ≡ t.objects

-- one object has another value, or is new
pub record Valued (t u : Tree) (h v : ℕ) : Type 0 where
  pub value : value_of u h ≡ gives v
  pub values : (k : ℕ) → (k ≡ h → ⊥) → value_of u k ≡ value_of t k

module _ (m : Limits) (t u : Tree) (p : List ℕ) (h : ℕ) (e : bind m t p h ≡ gives u) where
  -- what a binding that was made says of the tree before
  pub record Opened : Type 0 where
    pub more : 1 < length p
    pub at : Level
    pub there : level_at 0 t.levels (scope_of p) ≡ gives at
    pub free : is_bound (last_of p) at.bindings ≡ false
    pub room : length (bound t.levels) < m.bindings
    pub is : u ≡ with_levels t (alter (with_binding (record { segment = last_of p; handle = h })) t.levels (scope_of p))

  pub opened : Opened
  unfolding bind
  opened = go (leb (length p) 1) (level_at 0 t.levels (scope_of p)) refl refl e
    where
      full : (x y : Bool) (l : Level) → 1 < length p → level_at 0 t.levels (scope_of p) ≡ gives l → is_bound (last_of p) l.bindings ≡ x
          → leb m.bindings (length (bound t.levels)) ≡ y
          → cond x (refuses 17 0) (cond y (refuses 19 0) (gives (with_levels t (alter (with_binding (record { segment = last_of p; handle = h })) t.levels (scope_of p))))) ≡ gives u → Opened
      full true y l k q r v e = refuses-not e
      full false true l k q r v e = refuses-not e
      full false false l k q r v e = record { more = k; at = l; there = q; free = r; room = leb-false m.bindings (length (bound t.levels)) v; is = sym (gives_same e) }

      go : (x : Bool) (a : Answer Level) → leb (length p) 1 ≡ x → level_at 0 t.levels (scope_of p) ≡ a
          → cond x (refuses 13 0) (and_then a (λ l. cond (is_bound (last_of p) l.bindings) (refuses 17 0) (cond (leb m.bindings (length (bound t.levels))) (refuses 19 0)
          (gives (with_levels t (alter (with_binding (record { segment = last_of p; handle = h })) t.levels (scope_of p))))))) ≡ gives u → Opened
      go true a k q e = refuses-not e
      go false (refuses x y) k q e = refuses-not e
      go false (gives l) k q e = full (is_bound (last_of p) l.bindings) (leb m.bindings (length (bound t.levels))) l (leb-false (length p) 1 k) q refl refl e

  -- the level around, with its new binding
  abbrev x : Binding
  x = record { segment = last_of p; handle = h }

  abbrev more-bound : Change
  more-bound = kept (insert_binding x) (λ k. k)

  binding-kept : u.levels ≡ alter more-bound t.levels (scope_of p)
  unfolding with_binding kept
  binding-kept = ap (λ (z : Tree). z.levels) opened.is

  at_new : Stands 0 u.levels (scope_of p) (insert_binding x opened.at.bindings) opened.at.children
  at_new = subst (λ (f : Forest). Stands 0 f (scope_of p) (insert_binding x opened.at.bindings) opened.at.children) (sym binding-kept)
      (stands (insert_binding x) (λ k. k) t.levels (scope_of p) 0 opened.at opened.there)

  at_old : Stands 0 t.levels (scope_of p) opened.at.bindings opened.at.children
  at_old = stood t.levels (scope_of p) 0 opened.at opened.there

  -- a level elsewhere
  levels-elsewhere : (q : List ℕ) → (q ≡ scope_of p → ⊥) → held (level_at 0 u.levels q) ≡ held (level_at 0 t.levels q)
  levels-elsewhere q n = go (under (scope_of p) q) refl
    where
      deeper : (r : List ℕ) → q ≡ scope_of p ++ r → held (level_at 0 u.levels q) ≡ held (level_at 0 t.levels q)
      deeper [] k = absurd (n (k ∙ append-nil (scope_of p)))
      deeper (y ∷ r) k =
          ap (λ (l : List ℕ). held (level_at 0 u.levels l)) k
          ∙ ap held (at_new.all (y ∷ r) ∙ ap (λ (f : Forest). level_at (suc (0 + (length (scope_of p) - 1))) f (y ∷ r)) (at_new.below ∙ sym at_old.below) ∙ sym (at_old.all (y ∷ r)))
          ∙ sym (ap (λ (l : List ℕ). held (level_at 0 t.levels l)) k)

      go : (b : Bool) → under (scope_of p) q ≡ b → held (level_at 0 u.levels q) ≡ held (level_at 0 t.levels q)
      go true k = let z = under_rest (scope_of p) q k in deeper z.0 z.1
      go false k = ap (λ (f : Forest). held (level_at 0 f q)) binding-kept ∙ frame more-bound (kept-later (insert_binding x) (λ k. k)) t.levels (scope_of p) q 0 k

  -- what stands where the binding was made
  look-there : (f : Tree) (b : List Binding) (k : Forest) → Stands 0 f.levels (scope_of p) b k → (q : List ℕ) → 1 < length q → scope_of q ≡ scope_of p → look_up_answer f q ≡ handle_in (last_of q) b
  look-there f b k s q l e =
      look-held f q ∙ rw (lt-leb (length q) 1 l)
      (ap (λ (r : List ℕ). and_then (held (level_at 0 f.levels r)) (handle_in (last_of q))) (e ∙ sym (append-nil (scope_of p)))
      ∙ ap (λ (a : Answer Level). and_then (held a) (handle_in (last_of q))) (s.all []) ∙ ap (handle_in (last_of q)) s.binds)

  pub name-added : NameAdded t u p h
  name-added =
      record {
        new = look-there t _ _ at_old p opened.more refl ∙ bound-none (last_of p) opened.at.bindings opened.free;
        found = look-there u _ _ at_new p opened.more refl ∙ bound-found x opened.at.bindings opened.free;
        names = names;
        levels = levels-elsewhere;
      }
    where
      names : (q : List ℕ) → (q ≡ p → ⊥) → look_up_answer u q ≡ look_up_answer t q
      names q n = go (leb (length q) 1) (under (scope_of p) (scope_of q)) (under (scope_of q) (scope_of p)) refl refl refl
        where
          root : leb (length q) 1 ≡ true → look_up_answer u q ≡ look_up_answer t q
          root k = look-root u q k ∙ sym (look-root t q k)

          beside : 1 < length q → scope_of q ≡ scope_of p → look_up_answer u q ≡ look_up_answer t q
          beside k e =
              look-there u _ _ at_new q k e
              ∙ bound-other x (last_of q) opened.at.bindings
              (ne_eqb (last_of p) (last_of q) (λ z. n (ended q k ∙ (λ i. e i ++ (sym z i ∷ [])) ∙ sym (ended p opened.more))))
              ∙ sym (look-there t _ _ at_old q k e)

          go : (a b d : Bool) → leb (length q) 1 ≡ a → under (scope_of p) (scope_of q) ≡ b → under (scope_of q) (scope_of p) ≡ d → look_up_answer u q ≡ look_up_answer t q
          go true b d i j k = root i
          go false true true i j k = beside (leb-false (length q) 1 i) (under-both (scope_of q) (scope_of p) k j)
          go false true false i j k = look-same t u q (levels-elsewhere (scope_of q) (λ e. wrong (under_same (scope_of p)) (ap (λ (l : List ℕ). under l (scope_of p)) (sym e) ∙ k)))
          go false false d i j k = look-same t u q (levels-elsewhere (scope_of q) (λ e. wrong (under_same (scope_of p)) (ap (under (scope_of p)) (sym e) ∙ j)))

-- one object has another value
value-at : (t : Tree) (k : ℕ) → k < length t.objects → value_of t k ≡ gives (get_or t.objects k 0)
unfolding value_of
value-at t k h = rw (lt-ltb k (length t.objects) h)

value_none : (t : Tree) (k : ℕ) → length t.objects ≤ k → value_of t k ≡ refuses 21 0
unfolding value_of
value_none t k h = rw (le-ltb k (length t.objects) h)

-- a value at the end of the objects
value-more : (t u : Tree) (v : ℕ) → u.objects ≡ t.objects ++ (v ∷ []) → Valued t u (length t.objects) v
value-more t u v e =
    record {
      value = value-at u (length t.objects) (omega (arith, long)) ∙ ap gives (ap (λ (l : List ℕ). get_or l (length t.objects) 0) e ∙ get_or_at t.objects v [] 0 (length t.objects) refl);
      values = λ k n. other k n (ltb k (length t.objects)) refl;
    }
  where
    long : length u.objects ≡ length t.objects + 1
    long = ap length e ∙ length-append t.objects (v ∷ [])

    other : (k : ℕ) → (k ≡ length t.objects → ⊥) → (x : Bool) → ltb k (length t.objects) ≡ x → value_of u k ≡ value_of t k
    other k n true q =
        let h = ltb-true k (length t.objects) q in
        value-at u k (omega (arith, long)) ∙ ap gives (ap (λ (l : List ℕ). get_or l k 0) e ∙ get_or-append t.objects (v ∷ []) 0 k h) ∙ sym (value-at t k h)
    other k n false q =
        let h = ltb-false k (length t.objects) q in
        value_none u k (omega (arith, long)) ∙ sym (value_none t k h)

-- a value added: its name is bound to its handle, which is new, and its object has the value
pub record ValueAdded (t u : Tree) (p : List ℕ) (v h : ℕ) : Type 0 where
  pub name : NameAdded t u p h
  pub object : Valued t u h v
  pub fresh : value_of t h ≡ refuses 21 0

-- an alias added: its name is bound to what the target is bound to
pub record AliasAdded (t u : Tree) (p q : List ℕ) (h : ℕ) : Type 0 where
  pub target : look_up_answer t q ≡ gives h
  pub name : NameAdded t u p h
  pub still : look_up_answer u q ≡ gives h
  pub objects : u.objects ≡ t.objects

bind-objects : (m : Limits) (t u : Tree) (p : List ℕ) (h : ℕ) → bind m t p h ≡ gives u → u.objects ≡ t.objects
bind-objects m t u p h e = ap (λ (z : Tree). z.objects) (opened m t u p h e).is

-- other objects beside the same levels
moved-name : (t u w : Tree) (p : List ℕ) (h : ℕ) → w.levels ≡ u.levels → NameAdded t u p h → NameAdded t w p h
moved-name t u w p h e n =
    record {
      new = n.new;
      found = same p ∙ n.found;
      names = λ q k. same q ∙ n.names q k;
      levels = λ q k. ap (λ (f : Forest). held (level_at 0 f q)) e ∙ n.levels q k;
    }
  where
    same : (q : List ℕ) → look_up_answer w q ≡ look_up_answer u q
    same q = look-same u w q (ap (λ (f : Forest). held (level_at 0 f (scope_of q))) e)

pub add-value-frame : (m : Limits) (t : Tree) (p : List ℕ) (v : ℕ) (e : Edited ℕ) → add_value_answer m t p v ≡ gives e → ValueAdded t e.tree p v e.value
unfolding add_value_answer
add-value-frame m t p v e h = go (bind m t p (next_handle t)) refl h
  where
    last : (u : Tree) (x : Bool) → bind m t p (next_handle t) ≡ gives u
        → cond x (refuses 20 0) (gives (record { tree = with_objects u (t.objects ++ (v ∷ [])); value = next_handle t })) ≡ gives e → ValueAdded t e.tree p v e.value
    last u true q h = refuses-not h
    last u false q h =
        subst (λ (z : Edited ℕ). ValueAdded t z.tree p v z.value) (gives_same h)
        (record {
          name = moved-name t u (with_objects u (t.objects ++ (v ∷ []))) p (next_handle t) refl (name-added m t u p (next_handle t) q);
          object = value-more t (with_objects u (t.objects ++ (v ∷ []))) v refl;
          fresh = value_none t (length t.objects) (omega arith);
        })

    go : (a : Answer Tree) → bind m t p (next_handle t) ≡ a
        → and_then a (λ u. cond (leb m.objects (length t.objects)) (refuses 20 0) (gives (record { tree = with_objects u (t.objects ++ (v ∷ [])); value = next_handle t }))) ≡ gives e
        → ValueAdded t e.tree p v e.value
    go (gives u) q h = last u (leb m.objects (length t.objects)) q h
    go (refuses n k) q h = refuses-not h

pub add-alias-frame : (m : Limits) (t : Tree) (p q : List ℕ) (e : Edited ℕ) → add_alias_answer m t p q ≡ gives e → AliasAdded t e.tree p q e.value
unfolding add_alias_answer
add-alias-frame m t p q e h = go (look_up_answer t q) refl h
  where
    last : (k : ℕ) (a : Answer Tree) → look_up_answer t q ≡ gives k → bind m t p k ≡ a → and_then a (λ u. gives (record { tree = u; value = k })) ≡ gives e → AliasAdded t e.tree p q e.value
    last k (refuses i j) f g h = refuses-not h
    last k (gives u) f g h =
        let n = name-added m t u p k g in
        subst (λ (z : Edited ℕ). AliasAdded t z.tree p q z.value) (gives_same h)
        (record { target = f; name = n; still = n.names q (λ e. refuses-not (sym n.new ∙ ap (look_up_answer t) (sym e) ∙ f)) ∙ f; objects = bind-objects m t u p k g })

    go : (a : Answer ℕ) → look_up_answer t q ≡ a → and_then a (λ k. and_then (bind m t p k) (λ u. gives (record { tree = u; value = k }))) ≡ gives e → AliasAdded t e.tree p q e.value
    go (gives k) f h = last k (bind m t p k) f refl h
    go (refuses i j) f h = refuses-not h

pub set-value-frame : (t u : Tree) (h v : ℕ) → set_value t h v ≡ gives u → Valued t u h v × (u.levels ≡ t.levels)
unfolding set_value
set-value-frame t u h v e = go (ltb h (length t.objects)) refl e
  where
    go : (x : Bool) → ltb h (length t.objects) ≡ x → cond x (gives (with_objects t (set t.objects h v))) (refuses 21 0) ≡ gives u → Valued t u h v × (u.levels ≡ t.levels)
    go false q e = refuses-not e
    go true q e =
        subst (λ (z : Tree). Valued t z h v × (z.levels ≡ t.levels)) (gives_same e) (
          record {
            value = value-at (with_objects t (set t.objects h v)) h (omega (arith, live, length-set t.objects h v)) ∙ ap gives (get_or-set_same t.objects h v 0 live);
            values = λ k n. other k n (ltb k (length t.objects)) refl;
          },
          refl,
        )
      where
        live : h < length t.objects
        live = ltb-true h (length t.objects) q

        other : (k : ℕ) → (k ≡ h → ⊥) → (x : Bool) → ltb k (length t.objects) ≡ x → value_of (with_objects t (set t.objects h v)) k ≡ value_of t k
        other k n true q =
            let l = ltb-true k (length t.objects) q in
            value-at (with_objects t (set t.objects h v)) k (omega (arith, l, length-set t.objects h v))
            ∙ ap gives (get_or-set_other t.objects h k v 0 n) ∙ sym (value-at t k l)
        other k n false q =
            let l = ltb-false k (length t.objects) q in
            value_none (with_objects t (set t.objects h v)) k (omega (arith, l, length-set t.objects h v)) ∙ sym (value_none t k l)

pub remove-level-frame : (m : Limits) (t u : Tree) (p : List ℕ) → Whole m t → remove_level_answer t p ≡ gives u → LevelRemoved t u p
unfolding remove_level_answer
remove-level-frame m t u p w e = go (leb (length p) 1) (level_at 0 t.levels p) refl refl e
  where
    removed : (l : Level) → 1 < length p → level_at 0 t.levels p ≡ gives l → LevelRemoved t (with_levels t (alter without t.levels p)) p
    removed l k q = record { gone = lost; names_gone = unnamed; levels = kept-level; names = λ r n. look-same t v r (kept-level (scope_of r) n); objects = refl }
      where
        plain : (n : ℕ) → 0 + n ≡ n
        plain n = omega arith

        v : Tree
        v = with_levels t (alter without t.levels p)

        lost : (r : List ℕ) → under p r ≡ true → level_at 0 (alter without t.levels p) r ≡ refuses 15 (length p - 1)
        lost r n =
            let z = under_rest p r n in
            ap (level_at 0 (alter without t.levels p)) z.1
            ∙ gone m.components (is_live t) t.levels p z.0 0 1 0 l w.forest q ∙ ap (refuses 15) (plain (length p - 1))

        deep : (r : List ℕ) → under p (scope_of r) ≡ true → 1 < length r
        deep r n = let z = under_rest p (scope_of r) n in omega (arith, ap length z.1, length-append p z.0, length-take (length r - 1) r)

        unnamed : (r : List ℕ) → under p (scope_of r) ≡ true → look_up_answer v r ≡ refuses 15 (length p - 1)
        unnamed r n =
            look-held v r ∙ (rw (lt-leb (length r) 1 (deep r n)) (ap (λ (a : Answer Level). and_then (held a) (handle_in (last_of r))) (lost (scope_of r) n)))

        kept-level : (r : List ℕ) → under p r ≡ false → held (level_at 0 (alter without t.levels p) r) ≡ held (level_at 0 t.levels r)
        kept-level r n = frame without without-later t.levels p r 0 n

    go : (x : Bool) (a : Answer Level) → leb (length p) 1 ≡ x → level_at 0 t.levels p ≡ a
        → cond x (refuses 14 0) (and_then a (λ l. gives (with_levels t (alter without t.levels p)))) ≡ gives u → LevelRemoved t u p
    go true a k q e = refuses-not e
    go false (refuses i j) k q e = refuses-not e
    go false (gives l) k q e = subst (λ (z : Tree). LevelRemoved t z p) (gives_same e) (removed l (leb-false (length p) 1 k) q)

only-false : (b : Bool) → b && true ≡ false → b ≡ false
only-false true h = h
only-false false h = refl

module _ (m : Limits) (t u : Tree) (p : List ℕ) (typ : ℕ) (far : 1 < length p) (e : add_level_answer m t p typ ≡ gives u) where
  abbrev child : Change
  child = kept (λ b. b) (insert_level (last_of p) typ)

  abbrev grown : Tree
  grown = with_levels t (alter (with_child (last_of p) typ) t.levels (scope_of p))

  child-kept : grown.levels ≡ alter child t.levels (scope_of p)
  unfolding with_child kept
  child-kept = refl

  to_last : (f : Forest) (b : List Binding) (kids : Forest) → Stands 0 f (scope_of p) b kids → level_at 0 f p ≡ level_at (suc (0 + (length (scope_of p) - 1))) kids (last_of p ∷ [])
  to_last f b kids o =
      ap (level_at 0 f) (ended p far) ∙ o.all (last_of p ∷ []) ∙ ap (λ (k : Forest). level_at (suc (0 + (length (scope_of p) - 1))) k (last_of p ∷ [])) o.below

  module _ (l : Level) (q : level_at 0 t.levels (scope_of p) ≡ gives l) where
    was : Stands 0 t.levels (scope_of p) l.bindings l.children
    was = stood t.levels (scope_of p) 0 l q

    now : Stands 0 grown.levels (scope_of p) l.bindings (insert_level (last_of p) typ l.children)
    now = subst (λ (f : Forest). Stands 0 f (scope_of p) l.bindings (insert_level (last_of p) typ l.children)) (sym child-kept)
        (stands (λ b. b) (insert_level (last_of p) typ) t.levels (scope_of p) 0 l q)

    level-was : has_level (last_of p) l.children ≡ true → LevelAdded t t p
    level-was h =
        let k = has-level (last_of p) l.children (suc (0 + (length (scope_of p) - 1))) h in
        let f = to_last t.levels l.bindings l.children was ∙ k.1 in
        record { there = (k.0, f, λ n i g. refuses-not (sym g ∙ f)); levels = λ r n. refl; names = λ r n. refl; objects = refl }

    level-new : has_level (last_of p) l.children ≡ false → LevelAdded t grown p
    level-new h =
        record {
          there = (made (last_of p) typ [] none, to_last grown.levels l.bindings (insert_level (last_of p) typ l.children) now ∙ insert-found (last_of p) typ l.children (suc (0 + (length (scope_of p) - 1))) [] h, λ n i g. (refl, refl));
          levels = kept-level;
          names = λ r n. look-same t grown r (kept-level (scope_of r) n);
          objects = refl;
        }
      where
        apart : (y : ℕ) (r : List ℕ) → under p (scope_of p ++ (y ∷ r)) ≡ false → eqb (last_of p) y ≡ false
        apart y r n =
            only-false (eqb (last_of p) y)
            (sym (under_one (last_of p) y r) ∙ sym (under_more (scope_of p) (last_of p ∷ []) (y ∷ r)) ∙ ap (λ (z : List ℕ). under z (scope_of p ++ (y ∷ r))) (sym (ended p far)) ∙ n)

        below : (r z : List ℕ) → r ≡ scope_of p ++ z → under p r ≡ false → held (level_at 0 grown.levels (scope_of p ++ z)) ≡ held (level_at 0 t.levels (scope_of p ++ z))
        below r [] f n = ap held (now.all []) ∙ ap (λ (b : List Binding). gives b) (now.binds ∙ sym was.binds) ∙ sym (ap held (was.all []))
        below r (y ∷ z) f n =
            ap held (now.all (y ∷ z) ∙ ap (λ (k : Forest). level_at (suc (0 + (length (scope_of p) - 1))) k (y ∷ z)) now.below
            ∙ insert-other (last_of p) typ y l.children (suc (0 + (length (scope_of p) - 1))) z (apart y z (ap (under p) (sym f) ∙ n))
            ∙ ap (λ (k : Forest). level_at (suc (0 + (length (scope_of p) - 1))) k (y ∷ z)) (sym was.below) ∙ sym (was.all (y ∷ z)))

        kept-level : (r : List ℕ) → under p r ≡ false → held (level_at 0 grown.levels r) ≡ held (level_at 0 t.levels r)
        kept-level r n = go (under (scope_of p) r) refl
          where
            go : (b : Bool) → under (scope_of p) r ≡ b → held (level_at 0 grown.levels r) ≡ held (level_at 0 t.levels r)
            go true k =
                let z = under_rest (scope_of p) r k in
                ap (λ (x : List ℕ). held (level_at 0 grown.levels x)) z.1 ∙ below r z.0 z.1 n ∙ sym (ap (λ (x : List ℕ). held (level_at 0 t.levels x)) z.1)
            go false k = ap (λ (f : Forest). held (level_at 0 f r)) child-kept ∙ frame child (kept-later (λ b. b) (insert_level (last_of p) typ)) t.levels (scope_of p) r 0 k

  pub add-level-frame : LevelAdded t u p
  unfolding add_level_answer
  add-level-frame = go (level_at 0 t.levels (scope_of p)) refl (rw (lt-leb (length p) 1 far) at e)
    where
      last : (l : Level) → level_at 0 t.levels (scope_of p) ≡ gives l → (x y : Bool) → has_level (last_of p) l.children ≡ x
          → cond x (gives t) (cond y (refuses 18 0) (gives grown)) ≡ gives u → LevelAdded t u p
      last l q true y h e = subst (λ (z : Tree). LevelAdded t z p) (gives_same e) (level-was l q h)
      last l q false true h e = refuses-not e
      last l q false false h e = subst (λ (z : Tree). LevelAdded t z p) (gives_same e) (level-new l q h)

      go : (a : Answer Level) → level_at 0 t.levels (scope_of p) ≡ a
          → and_then a (λ l. cond (has_level (last_of p) l.children) (gives t) (cond (leb m.levels (level_count t.levels)) (refuses 18 0) (gives grown))) ≡ gives u → LevelAdded t u p
      go (gives l) q e = last l q (has_level (last_of p) l.children) (leb m.levels (level_count t.levels)) refl e
      go (refuses i j) q e = refuses-not e
