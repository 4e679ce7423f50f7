-- What the order asks of the table, under plain names. Memory means one tree; a fresh table is well-formed; an edit of a valid tree gives a valid
-- tree, so that whatever a call leaves is well-formed; the search finds the innermost, and counts the scopes asked.
use mathlib.Core.Path.{◌≡◌, refl, ap, sym, subst, ◌∙◌}
use mathlib.Core.Bool.{Bool, true, false, cond}
use mathlib.Core.Logic.{◌↔◌}
use mathlib.Core.List.{List, [], ◌∷◌, ◌++◌, map}
use Prim.Native.Nat.{ℕ, zero, suc, ◌+◌, ◌-◌, ◌<◌, ◌≤◌, ◌^◌}
use native.Mathlib.Omega.{arith}
use lib.Dec.{leb, ltb}
use lib.ListN.{length, take, set, replicate, length-append, length-set}
use lib.Seq.{length-take-le}
use borrow.Author.Tests.{leb-true, leb-false, ltb-true, ltb-false, lt-ltb}
use Rattle.pkg_length.proofs.Answers.{refuses-not, gives_same}
use Rattle.pkg_length.specs.Refusal.{Answer, gives, refuses, and_then}
use Rattle.name_object.specs.Component.{Component}
use Rattle.table.specs.Limits.{Limits}
use Rattle.table.specs.Tree.{Binding, Forest, none, level, Tree, Level, bound, is_live}
use Rattle.table.specs.Layout.{flat, encode, bind_word}
use Rattle.table.specs.Valid.{segment_ok, some, valid}
use Rattle.table.specs.Memory.{is_well_formed, means, Edited, left, fresh_tree, decode}
use Rattle.table.specs.Edits.{level_at, Change, alter, scope_of, last_of, is_bound, with_binding, with_levels, with_objects, next_handle, add_level_answer, remove_level_answer, look_up_answer, bind, add_value_answer, add_alias_answer, set_value}
use Rattle.table.specs.Inside.{Sought, here, before, missing, counts}
use Rattle.table.specs.Search.{Found, or_on, outward}
use Rattle.table.proofs.Shape.{Valid, fit}
use Rattle.table.proofs.Whole.{Whole, valid-whole}
use Rattle.table.proofs.Memory.{means-encode, means-whole, one-tree, encode-formed, formed-whole}
use Rattle.table.proofs.Objects.{fresh_valid}
use Rattle.table.proofs.Seek.{seek_f}
use Rattle.table.proofs.Levels.{alter-some}
use Rattle.table.proofs.Focus.{Focus, focus_at}
use Rattle.table.proofs.Held.{Split, split-last}
use Rattle.table.proofs.AddLevel.{add-root, add-here, add-missing, add-full, add-room, add-whole}
use Rattle.table.proofs.Remove.{remove-root, remove-here, remove-before, remove-missing, removed-whole}
use Rattle.table.proofs.Slots.{rising-more, FreeAt, free-slot}
use Rattle.table.proofs.Bind.{new, same_count, one-bound, bound-valid}
use Rattle.table.proofs.Frames.{Opened, opened}
use Rattle.table.proofs.Near.{level-stands, handle-live}

-- Memory.

-- a tree that the words are written from
pub record WrittenFrom (m : Limits) (ws : List ℕ) (t : Tree) : Type 0 where
  pub allowed : valid m t ≡ true
  pub words : ws ≡ encode m t

-- memory is well-formed exactly when it is written from a valid tree, and that is then the only one
pub memory-means-one-tree : (m : Limits) (ws : List ℕ) → m.objects ≤ 2 ^ 32
    → (is_well_formed m ws ≡ true) ↔ ((t : Tree) × WrittenFrom m ws t × ((u : Tree) → WrittenFrom m ws u → t ≡ u))
memory-means-one-tree m ws hm = (there, λ h. ap (is_well_formed m) h.1.words ∙ encode-formed m hm h.0 (valid-whole m h.0 h.1.allowed))
  where
    there : is_well_formed m ws ≡ true → (t : Tree) × WrittenFrom m ws t × ((u : Tree) → WrittenFrom m ws u → t ≡ u)
    there ok = let f = formed-whole m ws ok in (decode m ws, record { allowed = f.0; words = f.1 }, λ u w. one-tree m ws (decode m ws) u hm f.0 w.allowed f.1 w.words)

-- words mean a tree exactly when they are what that valid tree is written as
pub means-is-written : (m : Limits) (ws : List ℕ) (t : Tree) → m.objects ≤ 2 ^ 32 → (means m ws ≡ gives t) ↔ ((valid m t ≡ true) × (ws ≡ encode m t))
means-is-written m ws t hm = ((λ h. means-whole m ws t h), (λ h. ap (means m) h.1 ∙ means-encode m t hm h.0))

-- and refused by 24 exactly when no valid tree is written so
pub memory-refused : (m : Limits) (ws : List ℕ) → m.objects ≤ 2 ^ 32 → (means m ws ≡ refuses 24 0) ↔ ((t : Tree) → WrittenFrom m ws t → ⊥)
unfolding means
memory-refused m ws hm = (λ h t w. refuses-not (sym h ∙ (means-is-written m ws t hm).1 (w.allowed, w.words)), λ h. go (is_well_formed m ws) refl h)
  where
    go : (x : Bool) → is_well_formed m ws ≡ x → ((t : Tree) → WrittenFrom m ws t → ⊥) → cond x (gives (decode m ws)) (refuses 24 0) ≡ refuses 24 0
    go true e h = let x = (memory-means-one-tree m ws hm).0 e in absurd (h x.0 x.1)
    go false e h = refl

-- a fresh table is well-formed
pub fresh-is-well-formed : (m : Limits) → m.objects ≤ 2 ^ 32 → 0 < m.levels → 0 < m.components → is_well_formed m (encode m fresh_tree) ≡ true
fresh-is-well-formed m hm h k = encode-formed m hm fresh_tree (valid-whole m fresh_tree (fresh_valid m h k))

-- whatever an edit leaves of well-formed memory is well-formed, where the tree that it gives is valid: a refusal leaves the words as they were
pub left-is-well-formed : {A : Type 0} (m : Limits) (hm : m.objects ≤ 2 ^ 32) (ws : List ℕ) (a : Answer (Edited A)) → is_well_formed m ws ≡ true
    → ((e : Edited A) → a ≡ gives e → Whole m e.tree) → is_well_formed m (left m ws a).words ≡ true
left-is-well-formed m hm ws (gives e) ok h = encode-formed m hm e.tree (h e refl)
left-is-well-formed m hm ws (refuses n p) ok h = ok

-- Valid trees.

-- the keys of a path: within the limit, its last segment a segment
pub record GoodKeys (limit : ℕ) (p : List ℕ) : Type 0 where
  pub short : length p ≤ limit
  pub named : 1 < length p → segment_ok (last_of p) ≡ true

pub add-level-valid : (m : Limits) (t u : Tree) (p : List ℕ) (typ : ℕ) → Whole m t → GoodKeys m.components p → typ < 6 → add_level_answer m t p typ ≡ gives u → Whole m u
add-level-valid m t u p typ w g ht e = go (leb (length p) 1) refl
  where
    kept : add_level_answer m t p typ ≡ gives t → Whole m u
    kept d = subst (Whole m) (gives_same (sym d ∙ e)) w

    deep : (h : 1 < length p) (s : Sought) → seek_f t.levels p 0 0 0 ≡ s → Whole m u
    deep h (here j) d = kept (add-here m t w p h typ j d)
    deep h (missing n) d = refuses-not (sym (add-missing m t w p h typ n d) ∙ e)
    deep h (before j) d = room (leb m.levels (length (flat 1 t.levels))) refl
      where
        room : (x : Bool) → leb m.levels (length (flat 1 t.levels)) ≡ x → Whole m u
        room true q = refuses-not (sym (add-full m t w p h typ j d (leb-true _ _ q)) ∙ e)
        room false q =
            let l = leb-false m.levels (length (flat 1 t.levels)) q in
            subst (Whole m) (gives_same (sym (add-room m t w p h typ j d l) ∙ e)) (add-whole m t w p h typ j d ht (g.named h) g.short l)

    go : (x : Bool) → leb (length p) 1 ≡ x → Whole m u
    go true q = kept (add-root m t p typ (leb-true (length p) 1 q))
    go false q = deep (leb-false (length p) 1 q) (seek_f t.levels p 0 0 0) refl

pub remove-level-valid : (m : Limits) (t u : Tree) (p : List ℕ) → Whole m t → remove_level_answer t p ≡ gives u → Whole m u
remove-level-valid m t u p w e = go (leb (length p) 1) refl
  where
    deep : (h : 1 < length p) (s : Sought) → seek_f t.levels p 0 0 0 ≡ s → Whole m u
    deep h (here j) d =
        let x = remove-here m t w p j h d in
        subst (Whole m) (gives_same (sym x.1 ∙ e)) (removed-whole m t w p j x.0 _ _ refl refl h)
    deep h (before j) d = refuses-not (sym (remove-before m t w p j h d) ∙ e)
    deep h (missing n) d = refuses-not (sym (remove-missing m t w p n h d) ∙ e)

    go : (x : Bool) → leb (length p) 1 ≡ x → Whole m u
    go true q = refuses-not (sym (remove-root t p (leb-true (length p) 1 q)) ∙ e)
    go false q = deep (leb-false (length p) 1 q) (seek_f t.levels p 0 0 0) refl

module _ (m : Limits) (t u : Tree) (p : List ℕ) (h : ℕ) (w : Whole m t) (g : GoodKeys m.components p) (live : is_live t h ≡ true) (cap : m.bindings < 1024) (hm : m.objects ≤ 2 ^ 32) (e : bind m t p h ≡ gives u) where
  abbrev made : Opened m t u p h e
  made = opened m t u p h e

  o : Split p
  o = split-last p made.more

  spot : (k : ℕ) × Focus m.components (is_live t) t.levels 0 0 (scope_of p) 0 k 0
  spot =
      subst (λ (x : List ℕ). (k : ℕ) × Focus m.components (is_live t) t.levels 0 0 x 0 k 0) (sym o.scope)
      (focus_at m.components (is_live t) t.levels 0 o.first o.middle made.at w.forest (sym (ap (level_at 0 t.levels) o.scope) ∙ made.there))

  abbrev f : Focus m.components (is_live t) t.levels 0 0 (scope_of p) 0 spot.0 0
  f = spot.1

  abbrev x : Binding
  x = record { segment = last_of p; handle = h }

  abbrev ls : List ℕ
  ls = flat 1 t.levels ++ replicate 0 0

  free : (i : ℕ) × FreeAt (last_of p) (is_live t) 0 (record { segment = last_of p; handle = h }) f.b (counts (take spot.0 ls)) i
  free = free-slot (last_of p) (is_live t) x f.b (counts (take spot.0 ls)) refl f.valid.0.ordered
      (ap (λ (l : Level). is_bound (last_of p) l.bindings) (gives_same (sym f.found ∙ made.there)) ∙ made.free)

  deep-enough : f.rank < m.components
  deep-enough = omega (arith, f.deep, length-take-le (length p - 1) p (omega arith), g.short, made.more)

  -- one binding more
  pub bind-valid : Whole m u
  unfolding new with_binding
  bind-valid =
      subst (Whole m) (sym made.is)
      (record {
        rooted = subst (λ (q : List ℕ). some (alter (with_binding x) t.levels q) ≡ true) (sym o.scope) (alter-some (with_binding x) t.levels o.first o.middle (λ e s u b k n. refl) w.rooted);
        forest = bound-valid m t w hm ls (map bind_word (bound t.levels) ++ replicate 0 0) 0 0 refl refl (scope_of p) spot.0 f (last_of p) x free.0 free.1
            (g.named made.more) live deep-enough made.room cap;
        levels = rw (same_count m t w (omega (arith, hm)) ls (map bind_word (bound t.levels) ++ replicate 0 0) 0 0 refl refl (scope_of p) spot.0 f (last_of p) x free.0 free.1) w.levels;
        bindings = rw (one-bound m t w (omega (arith, hm)) ls (map bind_word (bound t.levels) ++ replicate 0 0) 0 0 refl refl (scope_of p) spot.0 f (last_of p) x free.0 free.1) made.room;
        objects = w.objects;
      })

-- more handles are no harm
valid-more : (limit : ℕ) (live more : ℕ → Bool) (r lo : ℕ) (f : Forest) → ((h : ℕ) → live h ≡ true → more h ≡ true) → Valid limit live r lo f → Valid limit more r lo f
valid-more limit live more r lo none h v = tt
valid-more limit live more r lo (level s t b kids next) h v =
    (fit limit more r lo s t b v.0.ok (rising-more live more 0 b h v.0.ordered), valid-more limit live more (suc r) 0 kids h v.1, valid-more limit live more r (suc s) next h v.2)

-- an object more, or another value of one
pub objects-valid : (m : Limits) (t : Tree) (vs : List ℕ) → Whole m t → length t.objects ≤ length vs → length vs ≤ m.objects → Whole m (with_objects t vs)
objects-valid m t vs w h l =
    record { rooted = w.rooted; forest = valid-more m.components (is_live t) (is_live (with_objects t vs)) 1 0 t.levels (λ k e. lt-ltb k (length vs) (omega (arith, ltb-true k (length t.objects) e))) w.forest; levels = w.levels; bindings = w.bindings; objects = l }

pub set-value-valid : (m : Limits) (t u : Tree) (h v : ℕ) → Whole m t → set_value t h v ≡ gives u → Whole m u
unfolding set_value
set-value-valid m t u h v w e = go (ltb h (length t.objects)) refl e
  where
    go : (x : Bool) → ltb h (length t.objects) ≡ x → cond x (gives (with_objects t (set t.objects h v))) (refuses 21 0) ≡ gives u → Whole m u
    go true q e =
        subst (Whole m) (gives_same e) (objects-valid m t (set t.objects h v) w (omega (arith, length-set t.objects h v)) (omega (arith, length-set t.objects h v, w.objects)))
    go false q e = refuses-not e

-- what a path is bound to was handed out
pub look-up-live : (m : Limits) (t : Tree) (p : List ℕ) (h : ℕ) → Whole m t → look_up_answer t p ≡ gives h → is_live t h ≡ true
unfolding look_up_answer
look-up-live m t p h w e = go (leb (length p) 1) e
  where
    found : (a : Answer Level) → level_at 0 t.levels (scope_of p) ≡ a → and_then a (λ l. Rattle.table.specs.Edits.handle_in (last_of p) l.bindings) ≡ gives h → is_live t h ≡ true
    found (gives l) q e =
        handle-live (is_live t) 0 (last_of p) h l.bindings (level-stands m.components (is_live t) t.levels 0 0 0 (scope_of p) l w.forest q).fits.ordered e
    found (refuses a b) q e = refuses-not e

    go : (x : Bool) → cond x (refuses 13 0) (and_then (level_at 0 t.levels (scope_of p)) (λ l. Rattle.table.specs.Edits.handle_in (last_of p) l.bindings)) ≡ gives h → is_live t h ≡ true
    go true e = refuses-not e
    go false e = found (level_at 0 t.levels (scope_of p)) refl e

module _ (m : Limits) (t : Tree) (w : Whole m t) (cap : m.bindings < 1024) (hm : m.objects ≤ 2 ^ 32) where
  pub add-alias-valid : (p q : List ℕ) (e : Edited ℕ) → GoodKeys m.components p → add_alias_answer m t p q ≡ gives e → Whole m e.tree
  unfolding add_alias_answer
  add-alias-valid p q e g d = aim (look_up_answer t q) refl d
    where
      tied : (h : ℕ) (a : Answer Tree) → look_up_answer t q ≡ gives h → bind m t p h ≡ a → and_then a (λ u. gives (record { tree = u; value = h })) ≡ gives e → Whole m e.tree
      tied h (gives u) l b d =
          subst (Whole m) (ap (λ (y : Edited ℕ). y.tree) (gives_same d)) (bind-valid m t u p h w g (look-up-live m t q h w l) cap hm b)
      tied h (refuses n k) l b d = refuses-not d

      aim : (a : Answer ℕ) → look_up_answer t q ≡ a → and_then a (λ h. and_then (bind m t p h) (λ u. gives (record { tree = u; value = h }))) ≡ gives e → Whole m e.tree
      aim (gives h) l d = tied h (bind m t p h) l refl d
      aim (refuses n k) l d = refuses-not d

  -- a binding does not depend on the objects
  bind-same : (p : List ℕ) (h : ℕ) (vs : List ℕ) (u : Tree) → bind m t p h ≡ gives u → bind m (with_objects t vs) p h ≡ gives (with_objects u vs)
  unfolding bind
  bind-same p h vs u e = go (leb (length p) 1) (level_at 0 t.levels (scope_of p)) e
    where
      new-levels : Forest
      new-levels = alter (with_binding (record { segment = last_of p; handle = h })) t.levels (scope_of p)

      last : (x y : Bool) → cond x (refuses 17 0) (cond y (refuses 19 0) (gives (with_levels t new-levels))) ≡ gives u
          → cond x (refuses 17 0) (cond y (refuses 19 0) (gives (record { levels = new-levels; objects = vs }))) ≡ gives (with_objects u vs)
      last true y e = refuses-not e
      last false true e = refuses-not e
      last false false e = ap (λ (z : Tree). gives (with_objects z vs)) (gives_same e)

      go : (x : Bool) (a : Answer Level)
          → cond x (refuses 13 0) (and_then a (λ l. cond (is_bound (last_of p) l.bindings) (refuses 17 0) (cond (leb m.bindings (length (bound t.levels))) (refuses 19 0) (gives (with_levels t new-levels))))) ≡ gives u
          → cond x (refuses 13 0) (and_then a (λ l. cond (is_bound (last_of p) l.bindings) (refuses 17 0) (cond (leb m.bindings (length (bound t.levels))) (refuses 19 0) (gives (record { levels = new-levels; objects = vs })))))
          ≡ gives (with_objects u vs)
      go true a e = refuses-not e
      go false (gives l) e = last (is_bound (last_of p) l.bindings) (leb m.bindings (length (bound t.levels))) e
      go false (refuses n k) e = refuses-not e

  pub add-value-valid : (p : List ℕ) (v : ℕ) (e : Edited ℕ) → GoodKeys m.components p → add_value_answer m t p v ≡ gives e → Whole m e.tree
  unfolding add_value_answer
  add-value-valid p v e g d = tied (bind m t p (next_handle t)) refl d
    where
      vs : List ℕ
      vs = t.objects ++ (v ∷ [])

      long : length (t.objects ++ (v ∷ [])) ≡ length t.objects + 1
      long = length-append t.objects (v ∷ [])

      room : (u : Tree) → bind m t p (next_handle t) ≡ gives u → (x : Bool) → leb m.objects (length t.objects) ≡ x
          → cond x (refuses 20 0) (gives (record { tree = with_objects u (t.objects ++ (v ∷ [])); value = next_handle t })) ≡ gives e → Whole m e.tree
      room u b true q d = refuses-not d
      room u b false q d =
          subst (Whole m) (ap (λ (y : Edited ℕ). y.tree) (gives_same d))
          (bind-valid m (with_objects t (t.objects ++ (v ∷ []))) (with_objects u (t.objects ++ (v ∷ []))) p (next_handle t)
          (objects-valid m t (t.objects ++ (v ∷ [])) w (omega (arith, long)) (omega (arith, long, leb-false m.objects (length t.objects) q)))
          g (lt-ltb (next_handle t) (length (t.objects ++ (v ∷ []))) (omega (arith, long))) cap hm (bind-same p (next_handle t) (t.objects ++ (v ∷ [])) u b))

      tied : (a : Answer Tree) → bind m t p (next_handle t) ≡ a
          → and_then a (λ u. cond (leb m.objects (length t.objects)) (refuses 20 0) (gives (record { tree = with_objects u (t.objects ++ (v ∷ [])); value = next_handle t }))) ≡ gives e → Whole m e.tree
      tied (gives u) b d = room u b (leb m.objects (length t.objects)) refl d
      tied (refuses n k) b d = refuses-not d

-- The search.

-- an answer that refuses
abbrev pub Refuses : {A : Type 0} → Answer A → Type 0
Refuses (gives a) = ⊥
Refuses (refuses n p) = Unit {0}

-- what a search that asks n scopes found: a scope of the first `depth` components that answers, and none nearer does
pub record Innermost {A : Type 0} (ask : List Component → Answer A) (ns : List Component) (n : ℕ) (f : Found A) : Type 0 where
  pub depth : ℕ
  pub some : 0 < depth
  pub within : depth ≤ n
  pub scope : f.scope ≡ take depth ns
  pub answers : ask (take depth ns) ≡ gives f.value
  pub nearer_none : (i : ℕ) → depth < i → i ≤ n → Refuses (ask (take i ns))

module _ {A : Type 0} (ask : List Component → Answer A) (x y : ℕ) (ns : List Component) where
  refuses-of : (a : Answer A) (n p : ℕ) → a ≡ refuses n p → Refuses a
  refuses-of (gives a) n p e = refuses-not (sym e)
  refuses-of (refuses m q) n p e = tt

  -- the binding found is the innermost, every scope nearer has none, and the scopes asked are those from the first asked down to it
  search-found : (n k : ℕ) (f : Found A) → outward ask (refuses x y) ns n k ≡ gives f → (h : Innermost ask ns n f) × (f.asked ≡ k + (n - h.depth) + 1)
  unfolding outward
  search-found zero k f e = refuses-not e
  search-found (suc n) k f e = go (ask (take (suc n) ns)) refl (search-found n (suc k) f) e
    where
      far : (a : Answer A) → ask (take (suc n) ns) ≡ a → Refuses a → (h : Innermost ask ns n f) × (f.asked ≡ suc k + (n - h.depth) + 1) → (h : Innermost ask ns (suc n) f) × (f.asked ≡ k + (suc n - h.depth) + 1)
      far a q r i =
          let h = i.0 in (
            record {
              depth = h.depth;
              some = h.some;
              within = omega (arith, h.within);
              scope = h.scope;
              answers = h.answers;
              nearer_none = λ j l u. each j l (ltb n j) refl u;
            },
            i.1 ∙ count k n h.depth h.within,
          )
        where
          count : (k n d : ℕ) → d ≤ n → suc k + (n - d) + 1 ≡ k + (suc n - d) + 1
          count k n d l = omega arith

          each : (j : ℕ) → i.0.depth < j → (z : Bool) → ltb n j ≡ z → j ≤ suc n → Refuses (ask (take j ns))
          each j l true z u =
              let s : j ≡ suc n = omega (arith, ltb-true n j z) in
              subst (λ (v : ℕ). Refuses (ask (take v ns))) (sym s) (subst Refuses (sym q) r)
          each j l false z u = i.0.nearer_none j l (ltb-false n j z)

      go : (a : Answer A) → ask (take (suc n) ns) ≡ a → (outward ask (refuses x y) ns n (suc k) ≡ gives f → (h : Innermost ask ns n f) × (f.asked ≡ suc k + (n - h.depth) + 1))
          → or_on a (take (suc n) ns) (suc k) (outward ask (refuses x y) ns n (suc k)) ≡ gives f → (h : Innermost ask ns (suc n) f) × (f.asked ≡ k + (suc n - h.depth) + 1)
      go (gives v) q i e =
          let d : record { scope = take (suc n) ns; value = v; asked = suc k } ≡ f = gives_same e in (
            record {
              depth = suc n;
              some = omega arith;
              within = omega arith;
              scope = sym (ap (λ (z : Found A). z.scope) d);
              answers = q ∙ ap gives (ap (λ (z : Found A). z.value) d);
              nearer_none = λ j l u. absurd (omega arith);
            },
            sym (ap (λ (z : Found A). z.asked) d) ∙ count k n,
          )
        where
          count : (k n : ℕ) → suc k ≡ k + (suc n - suc n) + 1
          count k n = omega arith
      go (refuses a b) q i e = far (refuses a b) q tt (i e)

  -- of a whole search: the innermost, and nothing nearer
  pub search-finds-innermost : (f : Found A) → outward ask (refuses x y) ns (length ns) 0 ≡ gives f → Innermost ask ns (length ns) f
  search-finds-innermost f e = (search-found (length ns) 0 f e).0

  -- scopes asked: components of the starting scope minus those of the scope found, plus 1
  pub scopes-asked : (f : Found A) → outward ask (refuses x y) ns (length ns) 0 ≡ gives f → f.asked ≡ length ns - length f.scope + 1
  scopes-asked f e =
      let r = search-found (length ns) 0 f e in
      r.1 ∙ count (length ns) r.0.depth (length f.scope) (ap length r.0.scope ∙ length-take-le r.0.depth ns r.0.within)
    where
      count : (n d c : ℕ) → c ≡ d → 0 + (n - d) + 1 ≡ n - c + 1
      count n d c h = omega arith

  -- where the search finds none, no scope has any
  pub none_found : (n k : ℕ) → outward ask (refuses x y) ns n k ≡ refuses x y → (i : ℕ) → 0 < i → i ≤ n → Refuses (ask (take i ns))
  unfolding outward
  none_found zero k e i z h = absurd (omega arith)
  none_found (suc n) k e i z h = go (ask (take (suc n) ns)) refl (none_found n (suc k)) e (ltb n i) refl
    where
      go : (a : Answer A) → ask (take (suc n) ns) ≡ a → (outward ask (refuses x y) ns n (suc k) ≡ refuses x y → (i : ℕ) → 0 < i → i ≤ n → Refuses (ask (take i ns)))
          → or_on a (take (suc n) ns) (suc k) (outward ask (refuses x y) ns n (suc k)) ≡ refuses x y → (u : Bool) → ltb n i ≡ u → Refuses (ask (take i ns))
      go (gives v) q f e u l = refuses-not (sym e)
      go (refuses a b) q f e true l =
          let s : i ≡ suc n = omega (arith, ltb-true n i l) in
          subst (λ (v : ℕ). Refuses (ask (take v ns))) (sym s) (refuses-of (ask (take (suc n) ns)) a b q)
      go (refuses a b) q f e false l = f e i z (ltb-false n i l)
