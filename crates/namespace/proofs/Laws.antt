-- What the order asks of the calls, under plain names: whatever any call leaves is well-formed; an edit does its work and leaves the rest; a search finds the
-- innermost, and refuses exactly where every scope does.
use mathlib.Core.Path.{◌≡◌, refl, ap, sym, subst, ◌∙◌}
use mathlib.Core.Bool.{true}
use mathlib.Core.Logic.{◌↔◌}
use mathlib.Core.List.{List, [], ◌∷◌, ◌++◌}
use Prim.Native.Nat.{ℕ, zero, suc, ◌+◌, ◌-◌, ◌<◌, ◌≤◌, ◌^◌}
use native.Mathlib.Omega.{arith}
use lib.ListN.{length, take}
use lib.Seq.{length-take-le}
use borrow.Author.Tests.{eq-eqb}
use Rattle.pkg_length.proofs.Answers.{refuses-not, gives_same}
use Rattle.pkg_length.specs.Refusal.{Answer, gives, refuses, and_then}
use Rattle.name_object.specs.Component.{Component}
use Rattle.name_object.specs.Memory.{Named, path_ok, path_of_name, path_in_answer}
use Rattle.name_object.specs.declared.AmlName.{AmlName}
use Rattle.path.specs.Normal.{resolved, one_segment}
use Rattle.path.proofs.Laws.{Kept}
use Rattle.table.specs.Limits.{Limits}
use Rattle.table.specs.Tree.{Tree, keys}
use Rattle.table.specs.Memory.{is_well_formed, decode, means, size, Edited, left, done}
use Rattle.table.specs.Edits.{add_level_answer, remove_level_answer, look_up_answer, add_value_answer, add_alias_answer, set_value}
use Rattle.table.specs.Search.{Found, Hit, or_on, outward, value_held_in, level_in, named, search_up_answer, level_up_answer}
use Rattle.table.proofs.Whole.{Whole, valid-whole, whole-valid}
use Rattle.table.proofs.Memory.{formed-whole, means-encode}
use Rattle.table.proofs.Objects.{means-formed}
use Rattle.table.proofs.Near.{length-keys, Alike}
use Rattle.table.proofs.Laws.{fresh-is-well-formed, left-is-well-formed, GoodKeys, add-level-valid, remove-level-valid, add-value-valid, add-alias-valid, set-value-valid, Refuses, search-finds-innermost, scopes-asked, none_found}
use Rattle.table.proofs.Frames.{LevelAdded, LevelRemoved, ValueAdded, AliasAdded, Valued, add-level-frame, remove-level-frame, add-value-frame, add-alias-frame, set-value-frame}
use Rattle.namespace.specs.declared.LevelType.{LevelType}
use Rattle.namespace.specs.declared.LevelType.TheVariants.{Scope, Device, Processor, PowerResource, ThermalZone, MethodLocals}
use Rattle.namespace.specs.Calls.{new_call, settled_keys, resolved_keys, number_of_type, add_level_call, remove_level_call, add_value_call, add_value_resolved_call, alias_at, add_alias_call, set_call, get_handle_call, get_by_path_call, set_by_path_call}
use Rattle.namespace.specs.Search.{first_of, search_call, level_call}
use Rattle.namespace.proofs.PathKeys.{key-ok, Keeps, asked, joined, asked-keys, joined-keys, asked-keeps, joined_keeps}
use Rattle.namespace.proofs.SearchCalls.{search-bare, level-bare}

-- the keys of a normal absolute path are good
good-keys : (limit : ℕ) (ns : List Component) → Kept limit ns → GoodKeys limit (keys ns)
good-keys limit ns k =
    record {
      short = omega (arith, length-keys ns, k.room);
      named = λ h. key-ok limit ns k (length (keys ns) - 1) (omega arith) (omega (arith, length-keys ns));
    }

-- what the keys of an answer are good for
keys-good : (limit : ℕ) (a : Answer (List Component)) (p : List ℕ) → Keeps limit a → and_then a (λ ns. gives (keys ns)) ≡ gives p → GoodKeys limit p
keys-good limit (gives ns) p k e = subst (GoodKeys limit) (gives_same e) (good-keys limit ns (k ns refl))
keys-good limit (refuses n m) p k e = refuses-not e

pub settled-good : (limit : ℕ) (name : AmlName) (p : List ℕ) → settled_keys limit name ≡ gives p → GoodKeys limit p
settled-good limit name p e = keys-good limit (asked limit name) p (asked-keeps limit name) (asked-keys limit name ∙ e)

pub joined-good : (limit : ℕ) (path scope : AmlName) (p : List ℕ) → resolved_keys limit path scope ≡ gives p → GoodKeys limit p
joined-good limit path scope p e = keys-good limit (joined limit path scope) p (joined_keeps limit path scope) (joined-keys limit path scope ∙ e)

done-tree : (a : Answer Tree) (e : Edited (Unit {0})) → done a ≡ gives e → a ≡ gives e.tree
done-tree (gives t) e d = ap (λ (x : Edited (Unit {0})). gives x.tree) (gives_same d)
done-tree (refuses n k) e d = refuses-not d

pub type-low : (t : LevelType) → number_of_type t < 6
type-low Scope = omega arith
type-low Device = omega arith
type-low Processor = omega arith
type-low PowerResource = omega arith
type-low ThermalZone = omega arith
type-low MethodLocals = omega arith

-- what a call makes of any memory is well-formed again
pub new-leaves-it-well-formed : (m : Limits) (ws : List ℕ) → m.objects ≤ 2 ^ 32 → 0 < m.levels → 0 < m.components → length ws ≡ size m → is_well_formed m (left m ws (new_call m ws)).words ≡ true
unfolding new_call
new-leaves-it-well-formed m ws hm h k l = rw (eq-eqb (length ws) (size m) l) (fresh-is-well-formed m hm h k)

-- What a call made of memory: the trees that it meant before and means after, the keys of its path, and what the edit did.
pub record Made (m : Limits) (ws us : List ℕ) (a : Answer (List ℕ)) (did : Tree → Tree → List ℕ → Type 0) : Type 0 where
  pub before : Tree
  pub after : Tree
  pub path : List ℕ
  pub meant : means m ws ≡ gives before
  pub means_now : means m us ≡ gives after
  pub keyed : a ≡ gives path
  pub work : did before after path

module _ (m : Limits) (hm : m.objects ≤ 2 ^ 32) (cap : m.bindings < 1024) (ws : List ℕ) (ok : is_well_formed m ws ≡ true) where
  whole : Whole m (decode m ws)
  whole = valid-whole m (decode m ws) (formed-whole m ws ok).0

  -- a call on the tree and a path that gives a tree
  call-parts : {A B : Type 0} (next : Tree → A → Answer B) (a : Answer A) (e : B) → and_then (means m ws) (λ t. and_then a (next t)) ≡ gives e → (p : A) × (a ≡ gives p) × (next (decode m ws) p ≡ gives e)
  call-parts {A} {B} next a e d = go a (rw (means-formed m ws ok) at d)
    where
      go : (a : Answer A) → and_then a (next (decode m ws)) ≡ gives e → (p : A) × (a ≡ gives p) × (next (decode m ws) p ≡ gives e)
      go (gives p) d = (p, refl, d)
      go (refuses n k) d = refuses-not d

  module _ {B : Type 0} (next : Tree → List ℕ → Answer (Edited B)) (a : Answer (List ℕ)) (valid : (p : List ℕ) (e : Edited B) → a ≡ gives p → next (decode m ws) p ≡ gives e → Whole m e.tree) where
    on-path : is_well_formed m (left m ws (and_then (means m ws) (λ t. and_then a (next t)))).words ≡ true
    on-path = left-is-well-formed m hm ws (and_then (means m ws) (λ t. and_then a (next t))) ok (λ e d. let g = call-parts next a e d in valid g.0 e g.1 g.2)

    made : (did : Tree → Tree → List ℕ → Type 0) (e : Edited B) → and_then (means m ws) (λ t. and_then a (next t)) ≡ gives e
        → ((p : List ℕ) → next (decode m ws) p ≡ gives e → did (decode m ws) e.tree p) → Made m ws (left m ws (and_then (means m ws) (λ t. and_then a (next t)))).words a did
    made did e d f =
        let g = call-parts next a e d in
        record {
          before = decode m ws;
          after = e.tree;
          path = g.0;
          meant = means-formed m ws ok;
          means_now = ap (λ (x : Answer (Edited B)). means m (left m ws x).words) d ∙ means-encode m e.tree hm (whole-valid m e.tree (valid g.0 e g.1 g.2));
          keyed = g.1;
          work = f g.0 g.2;
        }

  module _ (path : AmlName) (typ : LevelType) where
    level-whole : (p : List ℕ) (e : Edited (Unit {0})) → settled_keys m.components path ≡ gives p → done (add_level_answer m (decode m ws) p (number_of_type typ)) ≡ gives e → Whole m e.tree
    level-whole p e q d = add-level-valid m (decode m ws) e.tree p (number_of_type typ) whole (settled-good m.components path p q) (type-low typ) (done-tree _ e d)

    pub add-level-leaves-it-well-formed : is_well_formed m (left m ws (add_level_call m ws path typ)).words ≡ true
    unfolding add_level_call
    add-level-leaves-it-well-formed = on-path (λ t p. done (add_level_answer m t p (number_of_type typ))) (settled_keys m.components path) level-whole

    -- a level added is there, and every other level and name is as it was; `\` is there in any case
    pub add-level-adds : (e : Edited (Unit {0})) → add_level_call m ws path typ ≡ gives e
        → Made m ws (left m ws (add_level_call m ws path typ)).words (settled_keys m.components path) (λ t u p. 1 < length p → LevelAdded t u p)
    unfolding add_level_call
    add-level-adds e d =
        made (λ t p. done (add_level_answer m t p (number_of_type typ))) (settled_keys m.components path) level-whole (λ t u p. 1 < length p → LevelAdded t u p) e d
        (λ p q far. add-level-frame m (decode m ws) e.tree p (number_of_type typ) far (done-tree _ e q))

  module _ (path : AmlName) where
    removed-whole : (p : List ℕ) (e : Edited (Unit {0})) → settled_keys m.components path ≡ gives p → done (remove_level_answer (decode m ws) p) ≡ gives e → Whole m e.tree
    removed-whole p e q d = remove-level-valid m (decode m ws) e.tree p whole (done-tree _ e d)

    pub remove-level-leaves-it-well-formed : is_well_formed m (left m ws (remove_level_call m ws path)).words ≡ true
    unfolding remove_level_call
    remove-level-leaves-it-well-formed = on-path (λ t p. done (remove_level_answer t p)) (settled_keys m.components path) removed-whole

    -- a level removed is gone with everything below it, and every other level and name is as it was
    pub remove-level-removes : (e : Edited (Unit {0})) → remove_level_call m ws path ≡ gives e → Made m ws (left m ws (remove_level_call m ws path)).words (settled_keys m.components path) LevelRemoved
    unfolding remove_level_call
    remove-level-removes e d =
        made (λ t p. done (remove_level_answer t p)) (settled_keys m.components path) removed-whole LevelRemoved e d
        (λ p q. remove-level-frame m (decode m ws) e.tree p whole (done-tree _ e q))

  module _ (path : AmlName) (v : ℕ) where
    value-whole : (p : List ℕ) (e : Edited ℕ) → settled_keys m.components path ≡ gives p → add_value_answer m (decode m ws) p v ≡ gives e → Whole m e.tree
    value-whole p e q d = add-value-valid m (decode m ws) whole cap hm p v e (settled-good m.components path p q) d

    pub add-value-leaves-it-well-formed : is_well_formed m (left m ws (add_value_call m ws path v)).words ≡ true
    unfolding add_value_call
    add-value-leaves-it-well-formed = on-path (λ t p. add_value_answer m t p v) (settled_keys m.components path) value-whole

    -- a value added is found by its name and its handle, and every other name and object is as it was
    pub add-value-adds : (e : Edited ℕ) → add_value_call m ws path v ≡ gives e
        → Made m ws (left m ws (add_value_call m ws path v)).words (settled_keys m.components path) (λ t u p. ValueAdded t u p v e.value)
    unfolding add_value_call
    add-value-adds e d =
        made (λ t p. add_value_answer m t p v) (settled_keys m.components path) value-whole (λ t u p. ValueAdded t u p v e.value) e d (λ p q. add-value-frame m (decode m ws) p v e q)

    -- so the calls after it find it
    pub added-value-is-found : (e : Edited ℕ) → add_value_call m ws path v ≡ gives e
        → (get_handle_call m (left m ws (add_value_call m ws path v)).words path ≡ gives e.value) × (get_by_path_call m (left m ws (add_value_call m ws path v)).words path ≡ gives v)
    unfolding get_handle_call get_by_path_call
    added-value-is-found e d =
        let g = add-value-adds e d in
        (rw (g.means_now, g.keyed) g.work.name.found, rw (g.means_now, g.keyed, g.work.name.found) g.work.object.value)

  module _ (path scope : AmlName) (v : ℕ) where
    resolved-whole : (p : List ℕ) (e : Edited ℕ) → resolved_keys m.components path scope ≡ gives p → add_value_answer m (decode m ws) p v ≡ gives e → Whole m e.tree
    resolved-whole p e q d = add-value-valid m (decode m ws) whole cap hm p v e (joined-good m.components path scope p q) d

    pub add-value-resolved-leaves-it-well-formed : is_well_formed m (left m ws (add_value_resolved_call m ws path scope v)).words ≡ true
    unfolding add_value_resolved_call
    add-value-resolved-leaves-it-well-formed = on-path (λ t p. add_value_answer m t p v) (resolved_keys m.components path scope) resolved-whole

    pub add-value-resolved-adds : (e : Edited ℕ) → add_value_resolved_call m ws path scope v ≡ gives e
        → Made m ws (left m ws (add_value_resolved_call m ws path scope v)).words (resolved_keys m.components path scope) (λ t u p. ValueAdded t u p v e.value)
    unfolding add_value_resolved_call
    add-value-resolved-adds e d =
        made (λ t p. add_value_answer m t p v) (resolved_keys m.components path scope) resolved-whole (λ t u p. ValueAdded t u p v e.value) e d
        (λ p q. add-value-frame m (decode m ws) p v e q)

  -- a call that sets goes by a handle, given or looked up
  module _ (v : ℕ) where
    set-whole : (h : ℕ) (e : Edited (Unit {0})) → done (set_value (decode m ws) h v) ≡ gives e → Whole m e.tree
    set-whole h e d = set-value-valid m (decode m ws) e.tree h v whole (done-tree _ e d)

    pub set-leaves-it-well-formed : (h : ℕ) → is_well_formed m (left m ws (set_call m ws h v)).words ≡ true
    unfolding set_call
    set-leaves-it-well-formed h = on-path (λ t p. done (set_value t h v)) (gives []) (λ p e q d. set-whole h e d)

    -- the object has the value, and every other object and every name is as it was
    pub set-sets : (h : ℕ) (e : Edited (Unit {0})) → set_call m ws h v ≡ gives e
        → Made m ws (left m ws (set_call m ws h v)).words (gives []) (λ t u p. Valued t u h v × (u.levels ≡ t.levels))
    unfolding set_call
    set-sets h e d =
        made (λ t p. done (set_value t h v)) (gives []) (λ p e q d. set-whole h e d) (λ t u p. Valued t u h v × (u.levels ≡ t.levels)) e d
        (λ p q. set-value-frame (decode m ws) e.tree h v (done-tree _ e q))

    pub set-by-path-leaves-it-well-formed : (path : AmlName) → is_well_formed m (left m ws (set_by_path_call m ws path v)).words ≡ true
    unfolding set_by_path_call
    set-by-path-leaves-it-well-formed path =
        on-path (λ t p. and_then (look_up_answer t p) (λ h. done (set_value t h v))) (settled_keys m.components path) (λ p e q d. found (look_up_answer (decode m ws) p) e d)
      where
        found : (a : Answer ℕ) (e : Edited (Unit {0})) → and_then a (λ h. done (set_value (decode m ws) h v)) ≡ gives e → Whole m e.tree
        found (gives h) e d = set-whole h e d
        found (refuses n k) e d = refuses-not d

  module _ (path scope target : AmlName) where
    -- an alias's call is its work on the keys of its path and of its target, once all three are paths
    alias-parts : (e : Edited ℕ) → add_alias_call m ws path scope target ≡ gives e
        → (p q : List ℕ) × (resolved_keys m.components path scope ≡ gives p) × (resolved_keys m.components target scope ≡ gives q) × (add_alias_answer m (decode m ws) p q ≡ gives e)
    unfolding add_alias_call alias_at resolved_keys
    alias-parts e d = go (path_in_answer m.components path) (path_in_answer m.components scope) (path_in_answer m.components target) (rw (means-formed m ws ok) at d)
      where
        last : (cs ss ts : List Component) (x y : Answer (List Component)) → resolved m.components cs ss ≡ x → resolved m.components ts ss ≡ y
            → and_then x (λ ps. and_then y (λ qs. add_alias_answer m (decode m ws) (keys ps) (keys qs))) ≡ gives e
            → (p q : List ℕ) × (and_then (resolved m.components cs ss) (λ ns. gives (keys ns)) ≡ gives p) × (and_then (resolved m.components ts ss) (λ ns. gives (keys ns)) ≡ gives q) × (add_alias_answer m (decode m ws) p q ≡ gives e)
        last cs ss ts (gives ps) (gives qs) f g d = (keys ps, keys qs, rw f, rw g, d)
        last cs ss ts (gives ps) (refuses n k) f g d = refuses-not d
        last cs ss ts (refuses n k) y f g d = refuses-not d

        go : (a b c : Answer (List Component)) → and_then a (λ cs. and_then b (λ ss. and_then c (λ ts. and_then (resolved m.components cs ss) (λ ps. and_then (resolved m.components ts ss) (λ qs. add_alias_answer m (decode m ws) (keys ps) (keys qs)))))) ≡ gives e
            → (p q : List ℕ) × (and_then a (λ cs. and_then b (λ ss. and_then (resolved m.components cs ss) (λ ns. gives (keys ns)))) ≡ gives p)
            × (and_then c (λ ts. and_then b (λ ss. and_then (resolved m.components ts ss) (λ ns. gives (keys ns)))) ≡ gives q) × (add_alias_answer m (decode m ws) p q ≡ gives e)
        go (gives cs) (gives ss) (gives ts) d = last cs ss ts (resolved m.components cs ss) (resolved m.components ts ss) refl refl d
        go (gives cs) (gives ss) (refuses n k) d = refuses-not d
        go (gives cs) (refuses n k) c d = refuses-not d
        go (refuses n k) b c d = refuses-not d

    alias-whole : (e : Edited ℕ) → add_alias_call m ws path scope target ≡ gives e → Whole m e.tree
    alias-whole e d =
        let g = alias-parts e d in
        add-alias-valid m (decode m ws) whole cap hm g.0 g.1 e (joined-good m.components path scope g.0 g.2) g.4

    pub add-alias-leaves-it-well-formed : is_well_formed m (left m ws (add_alias_call m ws path scope target)).words ≡ true
    add-alias-leaves-it-well-formed = left-is-well-formed m hm ws (add_alias_call m ws path scope target) ok alias-whole

    -- the path is bound to what the target is bound to, and every other name and object is as it was
    pub add-alias-adds : (e : Edited ℕ) → add_alias_call m ws path scope target ≡ gives e
        → Made m ws (left m ws (add_alias_call m ws path scope target)).words (resolved_keys m.components path scope)
        (λ t u p. (q : List ℕ) × (resolved_keys m.components target scope ≡ gives q) × AliasAdded t u p q e.value)
    add-alias-adds e d =
        let g = alias-parts e d in
        record {
          before = decode m ws;
          after = e.tree;
          path = g.0;
          meant = means-formed m ws ok;
          means_now = ap (λ (x : Answer (Edited ℕ)). means m (left m ws x).words) d ∙ means-encode m e.tree hm (whole-valid m e.tree (alias-whole e d));
          keyed = g.2;
          work = (g.1, g.3, add-alias-frame m (decode m ws) g.0 g.1 e g.4);
        }

-- The search.

-- what a search of a bare segment answers, from a normal scope: the innermost scope that holds it, none nearer holding it, and the scopes asked
pub record Searched {A : Type 0} (ask : List Component → Answer A) (c : Component) (ns path : List Component) (asked : ℕ) (value : A) : Type 0 where
  pub depth : ℕ
  pub some : 0 < depth
  pub within : depth ≤ length ns
  pub name : path ≡ take depth ns ++ (c ∷ [])
  pub answers : ask (take depth ns) ≡ gives value
  pub nearer_none : (i : ℕ) → depth < i → i ≤ length ns → Refuses (ask (take i ns))
  pub counted : asked ≡ length ns - depth + 1

-- no scope of a normal scope holds it
abbrev pub NoneHolds : {A : Type 0} → (List Component → Answer A) → List Component → Type 0
NoneHolds ask ns = (i : ℕ) → 0 < i → i ≤ length ns → Refuses (ask (take i ns))

module _ {A B : Type 0} (ask : List Component → Answer A) (x y : ℕ) (c : Component) (ns : List Component) (value : Found A → B) where
  searched : (r : Named B) → named c value (outward ask (refuses x y) ns (length ns) 0) ≡ gives r
      → (f : Found A) × (record { path = f.scope ++ (c ∷ []); value = value f } ≡ r) × Searched ask c ns (f.scope ++ (c ∷ [])) f.asked f.value
  searched r e = go (outward ask (refuses x y) ns (length ns) 0) refl e
    where
      go : (a : Answer (Found A)) → outward ask (refuses x y) ns (length ns) 0 ≡ a → named c value a ≡ gives r
          → (f : Found A) × (record { path = f.scope ++ (c ∷ []); value = value f } ≡ r) × Searched ask c ns (f.scope ++ (c ∷ [])) f.asked f.value
      go (refuses n k) q e = refuses-not e
      go (gives f) q e =
          let h = search-finds-innermost ask x y ns f q in (
            f,
            gives_same e,
            record {
              depth = h.depth;
              some = h.some;
              within = h.within;
              name = ap (λ (l : List Component). l ++ (c ∷ [])) h.scope;
              answers = h.answers;
              nearer_none = h.nearer_none;
              counted = scopes-asked ask x y ns f q ∙ ap (λ (n : ℕ). length ns - n + 1) (ap length h.scope ∙ length-take-le h.depth ns h.within);
            },
          )

  none-holds : (n k : ℕ) → ((i : ℕ) → 0 < i → i ≤ n → Refuses (ask (take i ns))) → outward ask (refuses x y) ns n k ≡ refuses x y
  unfolding outward
  none-holds zero k h = refl
  none-holds (suc n) k h = go (ask (take (suc n) ns)) (h (suc n) (omega arith) (omega arith)) (none-holds n (suc k) (λ i z l. h i z (omega arith)))
    where
      go : (a : Answer A) → Refuses a → outward ask (refuses x y) ns n (suc k) ≡ refuses x y → or_on a (take (suc n) ns) (suc k) (outward ask (refuses x y) ns n (suc k)) ≡ refuses x y
      go (gives v) r i = absurd r
      go (refuses p q) r i = i

  refused_none : named c value (outward ask (refuses x y) ns (length ns) 0) ≡ refuses x y → NoneHolds ask ns
  refused_none e = none_found ask x y ns (length ns) 0 (go (outward ask (refuses x y) ns (length ns) 0) e)
    where
      go : (a : Answer (Found A)) → named c value a ≡ refuses x y → a ≡ refuses x y
      go (gives f) e = refuses-not (sym e)
      go (refuses n k) e = let i : n ≡ x = cc in let j : k ≡ y = cc in λ z. refuses (i z) (j z)

  none-refused : NoneHolds ask ns → named c value (outward ask (refuses x y) ns (length ns) 0) ≡ refuses x y
  none-refused h = ap (named c value) (none-holds (length ns) 0 h)

-- two ways of asking that are alike on every scope are searched alike
outward-alike : {A : Type 0} (one two : List Component → Answer A) (none : Answer (Found A)) (ns : List Component) (n k : ℕ)
    → ((i : ℕ) → 0 < i → i ≤ n → Alike (one (take i ns)) (two (take i ns))) → outward one none ns n k ≡ outward two none ns n k
unfolding outward
outward-alike one two none ns zero k h = refl
outward-alike {A} one two none ns (suc n) k h =
    go (one (take (suc n) ns)) (two (take (suc n) ns)) (h (suc n) (omega arith) (omega arith)) (outward-alike one two none ns n (suc k) (λ i z l. h i z (omega arith)))
  where
    go : (a b : Answer A) → Alike a b → outward one none ns n (suc k) ≡ outward two none ns n (suc k)
        → or_on a (take (suc n) ns) (suc k) (outward one none ns n (suc k)) ≡ or_on b (take (suc n) ns) (suc k) (outward two none ns n (suc k))
    go (gives x) (gives y) s i = λ j. gives (record { scope = take (suc n) ns; value = s j; asked = suc k })
    go (gives x) (refuses p q) s i = absurd s
    go (refuses p q) (gives y) s i = absurd s
    go (refuses p q) (refuses u v) s i = i

-- on trees
module _ (m : Limits) (t : Tree) (c : Component) (ns : List Component) where
  -- the binding found is the innermost
  pub search-is-innermost : (r : Named Hit) → search_up_answer m t c ns ≡ gives r → Searched (value_held_in m t c) c ns r.path r.value.asked r.value.handle
  unfolding search_up_answer
  search-is-innermost r e =
      let g = searched (value_held_in m t c) 16 0 c ns (λ f. record { handle = f.value; asked = f.asked }) r e in
      subst (λ (z : Named Hit). Searched (value_held_in m t c) c ns z.path z.value.asked z.value.handle) g.1 g.2

  pub level-search-is-innermost : (r : Named ℕ) → level_up_answer m t c ns ≡ gives r → Searched (level_in m t c) c ns r.path r.value tt
  unfolding level_up_answer
  level-search-is-innermost r e =
      let g = searched (level_in m t c) 15 1 c ns (λ f. f.asked) r e in
      subst (λ (z : Named ℕ). Searched (level_in m t c) c ns z.path z.value tt) g.1 g.2

  -- it refuses with 16 exactly when every scope holds none
  search-refuses : (search_up_answer m t c ns ≡ refuses 16 0) ↔ NoneHolds (value_held_in m t c) ns
  unfolding search_up_answer
  search-refuses = (refused_none (value_held_in m t c) 16 0 c ns (λ f. record { handle = f.value; asked = f.asked }), none-refused (value_held_in m t c) 16 0 c ns (λ f. record { handle = f.value; asked = f.asked }))

  level-search-refuses : (level_up_answer m t c ns ≡ refuses 15 1) ↔ NoneHolds (level_in m t c) ns
  unfolding level_up_answer
  level-search-refuses = (refused_none (level_in m t c) 15 1 c ns (λ f. f.asked), none-refused (level_in m t c) 15 1 c ns (λ f. f.asked))

  search-alike : (u : Tree) → ((i : ℕ) → 0 < i → i ≤ length ns → Alike (value_held_in m t c (take i ns)) (value_held_in m u c (take i ns))) → search_up_answer m t c ns ≡ search_up_answer m u c ns
  unfolding search_up_answer
  search-alike u h =
      ap (named c (λ f. record { handle = f.value; asked = f.asked })) (outward-alike (value_held_in m t c) (value_held_in m u c) (refuses 16 0) ns (length ns) 0 h)

-- of the calls: a bare segment, and a scope whose normal form is ns
module _ (m : Limits) (path scope : AmlName) (hp : path_ok m.components path ≡ true) (bare : one_segment (path_of_name path) ≡ true) (ns : List Component) (hs : asked m.components scope ≡ gives ns) where
  abbrev c : Component
  c = first_of (path_of_name path)

  module _ (ws : List ℕ) (ok : is_well_formed m ws ≡ true) where
    called : search_up_answer m (decode m ws) c ns ≡ search_call m ws path scope
    called = search-bare m ws path scope ok hp ns hs bare

    pub search-call-is-innermost : (r : Named Hit) → search_call m ws path scope ≡ gives r → Searched (value_held_in m (decode m ws) c) c ns r.path r.value.asked r.value.handle
    search-call-is-innermost r e = search-is-innermost m (decode m ws) c ns r (called ∙ e)

    pub search-call-refuses : (search_call m ws path scope ≡ refuses 16 0) ↔ NoneHolds (value_held_in m (decode m ws) c) ns
    search-call-refuses = let s = search-refuses m (decode m ws) c ns in ((λ e. s.0 (called ∙ e)), (λ h. sym called ∙ s.1 h))

    pub level-call-is-innermost : (r : Named ℕ) → level_call m ws path scope ≡ gives r → Searched (level_in m (decode m ws) c) c ns r.path r.value tt
    level-call-is-innermost r e = level-search-is-innermost m (decode m ws) c ns r (level-bare m ws path scope ok hp bare ns hs ∙ e)

    pub level-call-refuses : (level_call m ws path scope ≡ refuses 15 1) ↔ NoneHolds (level_in m (decode m ws) c) ns
    level-call-refuses =
        let s = level-search-refuses m (decode m ws) c ns in
        let l = level-bare m ws path scope ok hp bare ns hs in
        ((λ e. s.0 (l ∙ e)), (λ h. sym l ∙ s.1 h))

  -- two well-formed tables that agree on that segment in the scope and in each around it give the same answer
  pub search-is-steady : (ws us : List ℕ) → is_well_formed m ws ≡ true → is_well_formed m us ≡ true
      → ((i : ℕ) → 0 < i → i ≤ length ns → Alike (value_held_in m (decode m ws) c (take i ns)) (value_held_in m (decode m us) c (take i ns))) → search_call m ws path scope ≡ search_call m us path scope
  search-is-steady ws us ok ko h = sym (called ws ok) ∙ search-alike m (decode m ws) c ns (decode m us) h ∙ called us ko
