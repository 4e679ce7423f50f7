-- The search, over words and over the tree: each scope answers alike, so the innermost of the words' scopes is what asking scope after scope outwards finds.
use mathlib.Core.Path.{◌≡◌, refl, ap, sym, subst, ◌∙◌}
use mathlib.Core.Bool.{Bool, true, false, cond}
use mathlib.Core.List.{List, [], ◌∷◌, ◌++◌}
use Prim.Native.Nat.{ℕ, zero, suc, ◌+◌, ◌-◌, ◌<◌, ◌≤◌, ◌^◌}
use native.Mathlib.Omega.{arith}
use native.Mathlib.Numerals.{add-one}
use lib.Dec.{leb, ltb, eqb}
use lib.ListN.{length, take, drop, length-append}
use lib.Seq.{length-take-le}
use borrow.Author.Tests.{le-ltb, lt-ltb, ltb-true, ltb-false, eqb-true}
use Rattle.pkg_length.proofs.Answers.{refuses-not, gives_same}
use Rattle.pkg_length.specs.Refusal.{Answer, gives, refuses, and_then}
use Rattle.name_object.specs.Component.{Component}
use Rattle.table.specs.Limits.{Limits}
use Rattle.table.specs.Tree.{Binding, Forest, none, level, Tree, Level, key, keys, is_live}
use Rattle.table.specs.Valid.{rising}
use Rattle.table.specs.Memory.{is_well_formed, decode}
use Rattle.table.specs.Edits.{reached, level_at, scope_of, last_of, handle_in, look_up_answer}
use Rattle.table.specs.Search.{Found, or_on, outward, value_held_in, level_in}
use Rattle.std.specs.Prelude.{Result, Ok, Err}
use Rattle.table.specs.Inside.{Sought, here, before, missing, spot_in, Deep, closer, deepest, spotted, seen, value_held, level_held}
use Rattle.pkg_length.specs.declared.AmlError.{AmlError}
use Rattle.table.specs.declared.inner.Spot.{Spot}
use Rattle.table.proofs.Facts.{suc-plus, zero-plus}
use Rattle.table.proofs.Shape.{Valid, level-tests, binding-tests, LevelFit}
use Rattle.table.proofs.Whole.{Whole}
use Rattle.table.proofs.Seek.{seek_f, lacking, lacks}
use Rattle.table.proofs.Focus.{focus}
use Rattle.table.proofs.Objects.{whole}
use Rattle.table.proofs.Held.{seek-held}
use Rattle.table.proofs.BindCalls.{spot-refused, spot-bound, spot-live, spot-open}

pub length-keys : (cs : List Component) → length (keys cs) ≡ length cs
unfolding keys
length-keys [] = refl
length-keys (c ∷ cs) = ap suc (length-keys cs)

-- two answers are alike: the same value, or both refuse
abbrev pub Alike : {A : Type 0} → Answer A → Answer A → Type 0
Alike (gives a) (gives b) = a ≡ b
Alike (gives a) (refuses n p) = ⊥
Alike (refuses m q) (gives b) = ⊥
Alike (refuses m q) (refuses n p) = Unit {0}

pub alike_refl : {A : Type 0} (a : Answer A) → Alike a a
alike_refl (gives a) = refl
alike_refl (refuses n p) = tt

-- what the search answers from what was found
abbrev pub found_of : {A : Type 0} → List Component → ℕ → Answer (Found A) → Answer (Deep A) → Answer (Found A)
found_of ns total otherwise (gives d) = gives (record { scope = take d.depth ns; value = d.value; asked = total - d.depth + 1 })
found_of ns total otherwise (refuses n p) = otherwise

module _ {A : Type 0} (asks : List Component → Answer A) (found : ℕ → Answer A) (otherwise : Answer (Found A)) (ns : List Component)
    (same : (n : ℕ) → 0 < n → n ≤ length ns → Alike (asks (take n ns)) (found n)) where
  outward-deepest : (n k : ℕ) → n ≤ length ns → outward asks otherwise ns n k ≡ found_of ns (k + n) otherwise (deepest found n)
  unfolding outward deepest
  outward-deepest zero k l = refl
  outward-deepest (suc n) k l = go (asks (take (suc n) ns)) (found (suc n)) (same (suc n) (omega arith) l) (outward-deepest n (suc k) (omega arith))
    where
      go : (a b : Answer A) → Alike a b → outward asks otherwise ns n (suc k) ≡ found_of ns (suc k + n) otherwise (deepest found n)
          → or_on a (take (suc n) ns) (suc k) (outward asks otherwise ns n (suc k)) ≡ found_of ns (k + suc n) otherwise (closer (suc n) b (deepest found n))
      go (gives a) (gives b) h i = λ j. gives (record { scope = take (suc n) ns; value = h j; asked = count k n j })
        where
          count : (k n : ℕ) → suc k ≡ k + suc n - suc n + 1
          count k n = omega arith
      go (gives a) (refuses x y) h i = absurd h
      go (refuses x y) (gives b) h i = absurd h
      go (refuses x y) (refuses u v) h i = i ∙ ap (λ (m : ℕ). found_of ns m otherwise (deepest found n)) (suc-plus k n)

  -- the search is the innermost of the scopes, where each answers as the words do
  pub outward-near : outward asks otherwise ns (length ns) 0 ≡ found_of ns (length ns) otherwise (deepest found (length ns))
  outward-near = outward-deepest (length ns) 0 (omega arith) ∙ ap (λ (n : ℕ). found_of ns n otherwise (deepest found (length ns))) (zero-plus (length ns))

-- what is found was held by a scope
pub deepest-gave : {A : Type 0} (found : ℕ → Answer A) (n : ℕ) (d : Deep A) → deepest found n ≡ gives d → (0 < d.depth) × (d.depth ≤ n) × (found d.depth ≡ gives d.value)
unfolding deepest
deepest-gave found zero d e = refuses-not e
deepest-gave {A} found (suc n) d e = go (found (suc n)) refl (deepest-gave found n d) e
  where
    go : (a : Answer A) → found (suc n) ≡ a → (deepest found n ≡ gives d → (0 < d.depth) × (d.depth ≤ n) × (found d.depth ≡ gives d.value))
        → closer (suc n) a (deepest found n) ≡ gives d → (0 < d.depth) × (d.depth ≤ suc n) × (found d.depth ≡ gives d.value)
    go (gives v) q i e = subst (λ (x : Deep A). (0 < x.depth) × (x.depth ≤ suc n) × (found x.depth ≡ gives x.value)) (gives_same e) (omega arith, omega arith, q)
    go (refuses x y) q i e = let r = i e in (r.0, omega (arith, r.1), r.2)

-- keys of a scope with a segment behind it
pub keys-append : (xs ys : List Component) → keys (xs ++ ys) ≡ keys xs ++ keys ys
unfolding keys
keys-append [] ys = refl
keys-append (x ∷ xs) ys = ap (λ (l : List ℕ). key x ∷ l) (keys-append xs ys)

pub keys-take : (n : ℕ) (cs : List Component) → keys (take n cs) ≡ take n (keys cs)
unfolding keys
keys-take zero cs = refl
keys-take (suc n) [] = refl
keys-take (suc n) (c ∷ cs) = ap (λ (l : List ℕ). key c ∷ l) (keys-take n cs)

-- a level that is there may stand where it does
module _ (limit : ℕ) (live : ℕ → Bool) where
  pub record Stands (r : ℕ) (l : Level) : Type 0 where
    pub lo : ℕ
    pub fits : LevelFit limit live r lo l.segment l.typ l.bindings
    pub kids : Valid limit live (suc r) 0 l.children

  pub level-stands : (f : Forest) (r lo n : ℕ) (p : List ℕ) (l : Level) → Valid limit live (suc r) lo f → level_at n f p ≡ gives l → Stands (r + length p) l
  unfolding level_at
  level-stands none r lo n p l v e = absurd (let z : ◌≡◌ {A = ℕ} 0 1 = cc in omega arith)
  level-stands (level s' t b kids next) r lo n [] l v e = absurd (let z : ◌≡◌ {A = ℕ} 0 1 = cc in omega arith)
  level-stands (level s' t b kids next) r lo n (x ∷ p) l v e =
      go p (eqb s' x) (λ y q. level-stands kids (suc r) 0 (suc n) (y ∷ q) l v.1) (level-stands next r (suc s') n (x ∷ p) l v.2) e
    where
      moved : (r n : ℕ) → suc r + suc n ≡ r + suc (suc n)
      moved r n = omega arith

      go : (p : List ℕ) (z : Bool) → ((y : ℕ) (q : List ℕ) → level_at (suc n) kids (y ∷ q) ≡ gives l → Stands (suc r + suc (length q)) l) → (level_at n next (x ∷ p) ≡ gives l → Stands (r + suc (length p)) l)
          → cond z (reached p (gives (record { segment = s'; typ = t; bindings = b; children = kids })) (level_at (suc n) kids p)) (level_at n next (x ∷ p)) ≡ gives l → Stands (r + suc (length p)) l
      go [] true i j e = subst (Stands (r + 1)) (gives_same e) (rw (add-one r) (record { lo = lo; fits = v.0; kids = v.1 }))
      go (y ∷ q) true i j e = subst (λ (k : ℕ). Stands k l) (moved r (length q)) (i y q e)
      go p false i j e = j e

  -- one of the deepest rank holds nothing
  pub deep-bindings : (r : ℕ) (l : Level) → Stands r l → r ≡ limit → l.bindings ≡ []
  deep-bindings r l s h = empty l.bindings (eqb-true _ 0 (sym (rw (le-ltb r limit (omega arith))) ∙ (level-tests limit r s.lo l.segment l.typ (length l.bindings) s.fits.ok).counted))
    where
      empty : (b : List Binding) → length b ≡ 0 → b ≡ []
      empty [] h = refl
      empty (y ∷ b) h = absurd (omega arith)

-- what is found was handed out
pub handle-live : (live : ℕ → Bool) (lo s h : ℕ) (b : List Binding) → rising live lo b ≡ true → handle_in s b ≡ gives h → live h ≡ true
unfolding handle_in
handle-live live lo s h [] r e = absurd (let z : ◌≡◌ {A = ℕ} 0 1 = cc in omega arith)
handle-live live lo s h (b ∷ bs) r e =
    let t = binding-tests live lo b bs r in
    go (eqb b.segment s) t.alive (handle-live live (suc b.segment) s h bs t.later) e
  where
    go : (x : Bool) → live b.handle ≡ true → (handle_in s bs ≡ gives h → live h ≡ true) → cond x (gives b.handle) (handle_in s bs) ≡ gives h → live h ≡ true
    go true l i e = let d : b.handle ≡ h = cc in rw d at l
    go false l i e = i e

-- the keys of a scope's first n components, and of a name in it
module _ (c : Component) (ns : List Component) (n : ℕ) (h : n ≤ length ns) where
  pub with-last : keys (take n ns ++ (c ∷ [])) ≡ take n (keys ns) ++ (key c ∷ [])
  unfolding keys
  with-last = keys-append (take n ns) (c ∷ []) ∙ ap (λ (l : List ℕ). l ++ (key c ∷ [])) (keys-take n ns)

  pub front_length : length (take n (keys ns)) ≡ n
  front_length = length-take-le n (keys ns) (omega (arith, length-keys ns))

-- No name and no level has more components than the limit, so a scope of that many holds none.
module _ (m : Limits) (t : Tree) (w : Whole m t) (p : List ℕ) where
  pub level-shallow : (l : Level) → level_at 0 t.levels p ≡ gives l → length p ≤ m.components
  level-shallow l e = omega (arith, (level-stands m.components (is_live t) t.levels 0 0 0 p l w.forest e).fits.shallow)

  pub name-shallow : (h : ℕ) → look_up_answer t p ≡ gives h → length (scope_of p) < m.components
  unfolding look_up_answer handle_in
  name-shallow h e = go (leb (length p) 1) (level_at 0 t.levels (scope_of p)) refl e
    where
      held : (l : Level) → level_at 0 t.levels (scope_of p) ≡ gives l → handle_in (last_of p) l.bindings ≡ gives h → (x : Bool) → ltb (length (scope_of p)) m.components ≡ x → length (scope_of p) < m.components
      held l q e true x = ltb-true (length (scope_of p)) m.components x
      held l q e false x =
          let s = level-stands m.components (is_live t) t.levels 0 0 0 (scope_of p) l w.forest q in
          refuses-not (sym (ap (handle_in (last_of p)) (deep-bindings m.components (is_live t) (0 + length (scope_of p)) l s (omega (arith, s.fits.shallow, ltb-false (length (scope_of p)) m.components x)))) ∙ e)

      go : (x : Bool) (a : Answer Level) → level_at 0 t.levels (scope_of p) ≡ a → cond x (refuses 13 0) (and_then a (λ l. handle_in (last_of p) l.bindings)) ≡ gives h → length (scope_of p) < m.components
      go true a q e = refuses-not e
      go false (gives l) q e = held l q e (ltb (length (scope_of p)) m.components) refl
      go false (refuses i j) q e = refuses-not e

-- an answer that refuses, behind a test or not
alike-refused : {A : Type 0} (x : Bool) (a : Answer A) (n k i j u v : ℕ) → a ≡ refuses n k → Alike (cond x a (refuses i j)) (refuses u v)
alike-refused true a n k i j u v e = rw e tt
alike-refused false a n k i j u v e = tt

-- Each scope answers as the words do.
module _ (m : Limits) (hm : m.objects ≤ 2 ^ 32) (ws : List ℕ) (ok : is_well_formed m ws ≡ true) (c : Component) (ns : List Component) where
  abbrev t : Tree
  t = decode m ws

  abbrev ls : List ℕ
  ls = take m.levels ws

  abbrev bs : List ℕ
  bs = take m.bindings (drop m.levels ws)

  module _ (n : ℕ) (z : 0 < n) (h : n ≤ length ns) where
    abbrev p : List ℕ
    p = take n (keys ns) ++ (key c ∷ [])

    long : length p ≡ suc n
    long = length-append (take n (keys ns)) (key c ∷ []) ∙ plus (length (take n (keys ns))) n (front_length c ns n h)
      where
        plus : (k n : ℕ) → k ≡ n → k + 1 ≡ suc n
        plus k n e = omega arith

    -- values
    value_low : (v : ℕ) → look_up_answer t p ≡ gives v → n < m.components
    value_low v e = omega (arith, name-shallow m t (whole m hm ws ok) p v e, length-take-le (length p - 1) p (omega (arith, long)), long)

    same-value : Alike (value_held_in m t c (take n ns)) (value_held ls bs (keys ns) (key c) n)
    unfolding value_held_in value_held
    same-value = rw (with-last c ns n h, length-take-le n ns h) (go (spot_in ls bs p) refl)
      where
        go : (r : Result Spot AmlError) → r ≡ spot_in ls bs p → Alike (cond (ltb n m.components) (look_up_answer t p) (refuses 16 0)) (spotted r)
        go (Ok (Spot.Bound v)) e =
            let x = (spot-bound m hm ws ok p (Ok (Spot.Bound v)) e v refl).0 in
            rw (lt-ltb n m.components (value_low v x), x) refl
        go (Ok (Spot.Free q)) e = alike-refused (ltb n m.components) (look_up_answer t p) 16 0 16 0 16 0 (spot-open m hm ws ok p (Ok (Spot.Free q)) e q.level q.binding refl).looked
        go (Err x) e = alike-refused (ltb n m.components) (look_up_answer t p) _ _ 16 0 16 0 (spot-refused m hm ws ok p (Err x) e x refl).0

    value-held : (v : ℕ) → value_held ls bs (keys ns) (key c) n ≡ gives v → (n < m.components) × (is_live t v ≡ true)
    unfolding value_held
    value-held v = go (spot_in ls bs p) refl
      where
        go : (r : Result Spot AmlError) → r ≡ spot_in ls bs p → spotted r ≡ gives v → (n < m.components) × (is_live t v ≡ true)
        go (Ok (Spot.Bound x)) e d =
            let y : x ≡ v = gives_same d in
            (value_low x (spot-bound m hm ws ok p (Ok (Spot.Bound x)) e x refl).0, rw (← y) (spot-live m hm ws ok p (Ok (Spot.Bound x)) e x refl))
        go (Ok (Spot.Free q)) e d = refuses-not d
        go (Err x) e d = refuses-not d

    -- levels
    level-seen : (q : List ℕ) → 0 < length q → (x : Sought) → seek_f t.levels q 0 0 0 ≡ x → Alike (and_then (level_at 0 t.levels q) (λ l. gives tt)) (seen x)
    level-seen [] y x e = absurd (omega arith)
    level-seen (s ∷ q) y x e = go x e (subst (λ (x : Sought). lacking 0 q x (level_at 0 t.levels (s ∷ q))) e (lacks m.components (is_live t) t.levels 0 0 s q 0 0 (whole m hm ws ok).forest))
      where
        go : (x : Sought) → seek_f t.levels (s ∷ q) 0 0 0 ≡ x → lacking 0 q x (level_at 0 t.levels (s ∷ q)) → Alike (and_then (level_at 0 t.levels (s ∷ q)) (λ l. gives tt)) (seen x)
        go (here j) e a = rw (focus m.components (is_live t) t.levels 0 0 s q 0 0 j (whole m hm ws ok).forest e).found refl
        go (before j) e a = rw a tt
        go (missing k) e a = rw a tt

    level-is : Alike (and_then (level_at 0 t.levels p) (λ l. gives tt)) (level_held ls (keys ns) (key c) n)
    unfolding level_held
    level-is = rw (seek-held m hm ws ok p) (level-seen p (omega (arith, long)) (seek_f t.levels p 0 0 0) refl)

    level-low : (a : Answer Level) → level_at 0 t.levels p ≡ a → (v : Unit {0}) → and_then a (λ l. gives tt) ≡ gives v → n < m.components
    level-low (gives l) e v d = omega (arith, level-shallow m t (whole m hm ws ok) p l e, long)
    level-low (refuses i j) e v d = refuses-not d

    level-alike : (a : Answer (Unit {0})) (b : Answer (Unit {0})) → Alike a b → ((v : Unit {0}) → a ≡ gives v → n < m.components) → Alike (cond (ltb n m.components) a (refuses 15 1)) b
    level-alike (gives a) (gives b) x f = rw (lt-ltb n m.components (f a refl)) x
    level-alike (gives a) (refuses i j) x f = absurd x
    level-alike (refuses i j) (gives b) x f = absurd x
    level-alike (refuses i j) (refuses u v) x f = alike-refused (ltb n m.components) (refuses i j) i j 15 1 u v refl

    same-level : Alike (level_in m t c (take n ns)) (level_held ls (keys ns) (key c) n)
    unfolding level_in
    same-level = rw (with-last c ns n h, length-take-le n ns h) (level-alike (and_then (level_at 0 t.levels p) (λ l. gives tt)) (level_held ls (keys ns) (key c) n) level-is (level-low (level_at 0 t.levels p) refl))

    level-held : (v : Unit {0}) → level_held ls (keys ns) (key c) n ≡ gives v → n < m.components
    level-held v d = go (level_at 0 t.levels p) refl (subst (Alike (and_then (level_at 0 t.levels p) (λ l. gives tt))) d level-is)
      where
        go : (a : Answer Level) → level_at 0 t.levels p ≡ a → Alike (and_then a (λ l. gives tt)) (gives v) → n < m.components
        go (gives l) e x = level-low (gives l) e tt refl
        go (refuses i j) e x = absurd x

  pub value-search : outward (value_held_in m t c) (refuses 16 0) ns (length ns) 0 ≡ found_of ns (length ns) (refuses 16 0) (deepest (value_held ls bs (keys ns) (key c)) (length ns))
  value-search = outward-near (value_held_in m t c) (value_held ls bs (keys ns) (key c)) (refuses 16 0) ns same-value

  pub value-deep : (d : Deep ℕ) → deepest (value_held ls bs (keys ns) (key c)) (length ns) ≡ gives d → (0 < d.depth) × (d.depth ≤ length ns) × (d.depth < m.components) × (is_live t d.value ≡ true)
  value-deep d e =
      let g = deepest-gave (value_held ls bs (keys ns) (key c)) (length ns) d e in
      let v = value-held d.depth g.0 g.1 d.value g.2 in
      (g.0, g.1, v.0, v.1)

  pub level-search : outward (level_in m t c) (refuses 15 1) ns (length ns) 0 ≡ found_of ns (length ns) (refuses 15 1) (deepest (level_held ls (keys ns) (key c)) (length ns))
  level-search = outward-near (level_in m t c) (level_held ls (keys ns) (key c)) (refuses 15 1) ns same-level

  pub level-deep : (d : Deep (Unit {0})) → deepest (level_held ls (keys ns) (key c)) (length ns) ≡ gives d → (0 < d.depth) × (d.depth ≤ length ns) × (d.depth < m.components)
  level-deep d e =
      let g = deepest-gave (level_held ls (keys ns) (key c)) (length ns) d e in
      (g.0, g.1, level-held d.depth g.0 g.1 d.value g.2)
