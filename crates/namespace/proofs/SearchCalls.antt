-- What the search answers, from what the one pass found.
use mathlib.Core.Path.{◌≡◌, refl, ap, ap₂, sym, ◌∙◌}
use mathlib.Core.Bool.{true, cond}
use mathlib.Core.List.{List, [], ◌∷◌, ◌++◌}
use Prim.Native.Nat.{ℕ, ◌+◌, ◌-◌, ◌<◌, ◌≤◌}
use native.Mathlib.Omega.{arith}
use lib.ListN.{length, take, drop}
use Rattle.std.specs.Prelude.{Option, Some, None}
use Rattle.pkg_length.specs.Refusal.{Answer, gives, refuses, and_then}
use Rattle.name_object.specs.Component.{Component, component_limit}
use Rattle.name_object.specs.Memory.{Told, told, name_of, path_ok, path_of_name, path_in_answer}
use Rattle.name_object.specs.declared.AmlName.{AmlName}
use Rattle.path.specs.Normal.{resolved, one_segment}
use Rattle.path.proofs.Walks.{length-path}
use Rattle.table.specs.Limits.{Limits, limits}
use Rattle.table.specs.Tree.{Tree, key, keys}
use Rattle.table.specs.Memory.{is_well_formed, decode}
use Rattle.table.specs.Edits.{look_up_answer}
use Rattle.namespace.specs.Calls.{settled}
use Rattle.table.specs.Search.{Found, Hit, named, search_up_answer, level_up_answer}
use Rattle.namespace.specs.Search.{first_of, search_once_answer, search_call, level_call}
use Rattle.table.specs.Inside.{Deep, deepest, value_held, level_held, nearest_of, depth_of}
use Rattle.table.specs.declared.inner.Nearest.{Nearest}
use Rattle.table.proofs.Objects.{means-formed}
use Rattle.pkg_length.proofs.Answers.{refuses-not}
use Rattle.namespace.proofs.PathKeys.{tested}
use Rattle.table.proofs.Near.{length-keys, found_of, value-search, value-deep, level-search, level-deep}

-- what is given with a path, part by part
pub same-told : {A : Type 0} {m n : AmlName} {a b : A} → m ≡ n → a ≡ b → ◌≡◌ {A = Answer (Told A)} (gives (record { memory = m; value = a })) (gives (record { memory = n; value = b }))
same-told e f = λ i. gives (record { memory = e i; value = f i })

some-same : {A : Type 0} {a b : A} → ◌≡◌ {A = Option A} (Some a) (Some b) → a ≡ b
some-same e = cc

some-not : {A : Type 0} {a : A} {T : Type 0} → ◌≡◌ {A = Option A} (Some a) None → T
some-not {A} {a} e = absurd (let z : ◌≡◌ {A = ℕ} 0 1 = cc in omega arith)

module _ (ws : List ℕ) (ok : is_well_formed limits ws ≡ true) (scope : AmlName) (c : Component) where
  abbrev t : Tree
  t = decode limits ws

  abbrev ns : List Component
  ns = path_of_name scope

  -- values
  abbrev near : Answer (Deep ℕ)
  near = deepest (value_held (take limits.levels ws) (take limits.bindings (drop limits.levels ws)) (keys ns) (key c)) (length ns)

  abbrev hit_of : Found ℕ → Hit
  hit_of f = record { handle = f.value; asked = f.asked }

  search_is : search_up_answer limits t c ns ≡ named c hit_of (found_of ns (length ns) (refuses 16 0) near)
  unfolding search_up_answer
  search_is = ap (named c hit_of) (value-search limits (omega arith) ws ok c ns)

  module _ (q : Option Nearest) (e : q ≡ nearest_of (deepest (value_held (take limits.levels ws) (take limits.bindings (drop limits.levels ws)) (keys ns) (key c)) (length (keys ns)))) where
    found-is : q ≡ nearest_of near
    found-is = e ∙ ap (λ (n : ℕ). nearest_of (deepest (value_held (take limits.levels ws) (take limits.bindings (drop limits.levels ws)) (keys ns) (key c)) n)) (length-keys ns)

    pub up_none : q ≡ None → search_up_answer limits t c ns ≡ refuses 16 0
    up_none z = go near refl
      where
        go : (a : Answer (Deep ℕ)) → near ≡ a → search_up_answer limits t c ns ≡ refuses 16 0
        go (gives d) h = some-not (sym (sym z ∙ found-is ∙ ap nearest_of h))
        go (refuses n p) h = search_is ∙ ap (λ (a : Answer (Deep ℕ)). named c hit_of (found_of ns (length ns) (refuses 16 0) a)) h

    module _ (x : Nearest) (z : q ≡ Some x) where
      given : (d : Deep ℕ) × (near ≡ gives d)
      given = go near refl
        where
          go : (a : Answer (Deep ℕ)) → near ≡ a → (d : Deep ℕ) × (near ≡ gives d)
          go (gives d) h = (d, h)
          go (refuses n p) h = some-not (sym z ∙ found-is ∙ ap nearest_of h)

      nearest-is : x ≡ record { depth = given.0.depth; handle = given.0.value }
      nearest-is = some-same (sym z ∙ found-is ∙ ap nearest_of given.1)

      depth_is : x.depth ≡ given.0.depth
      depth_is = ap (λ (y : Nearest). y.depth) nearest-is

      handle-is : x.handle ≡ given.0.value
      handle-is = ap (λ (y : Nearest). y.handle) nearest-is

      pub up-range : (x.depth ≤ scope.count) × (x.depth < component_limit)
      up-range =
          let r = value-deep limits (omega arith) ws ok c ns given.0 given.1 in
          omega (arith, r.1, r.2, depth_is, length-path scope)

      pub up-found : (name : AmlName) → name ≡ name_of component_limit (take x.depth ns ++ (c ∷ []))
          → gives (record { memory = name; value = record { handle = x.handle; asked = scope.count - x.depth + 1 } }) ≡ told component_limit (search_up_answer limits t c ns)
      up-found name h =
          same-told (h ∙ ap (λ (n : ℕ). name_of component_limit (take n ns ++ (c ∷ []))) depth_is)
          (λ i. record { handle = handle-is i; asked = (ap₂ (λ (a b : ℕ). a - b + 1) (sym (length-path scope)) depth_is) i })
          ∙ ap (told component_limit) (sym (search_is ∙ ap (λ (a : Answer (Deep ℕ)). named c hit_of (found_of ns (length ns) (refuses 16 0) a)) given.1))

  -- levels
  abbrev near_level : Answer (Deep (Unit {0}))
  near_level = deepest (level_held (take limits.levels ws) (keys ns) (key c)) (length ns)

  level-is : level_up_answer limits t c ns ≡ named c (λ f. f.asked) (found_of ns (length ns) (refuses 15 1) near_level)
  unfolding level_up_answer
  level-is = ap (named c (λ f. f.asked)) (level-search limits (omega arith) ws ok c ns)

  module _ (q : Option ℕ) (e : q ≡ depth_of (deepest (level_held (take limits.levels ws) (keys ns) (key c)) (length (keys ns)))) where
    depth-found : q ≡ depth_of near_level
    depth-found = e ∙ ap (λ (n : ℕ). depth_of (deepest (level_held (take limits.levels ws) (keys ns) (key c)) n)) (length-keys ns)

    pub level-none : q ≡ None → level_up_answer limits t c ns ≡ refuses 15 1
    level-none z = go near_level refl
      where
        go : (a : Answer (Deep (Unit {0}))) → near_level ≡ a → level_up_answer limits t c ns ≡ refuses 15 1
        go (gives d) h = some-not (sym (sym z ∙ depth-found ∙ ap depth_of h))
        go (refuses n p) h = level-is ∙ ap (λ (a : Answer (Deep (Unit {0}))). named c (λ f. f.asked) (found_of ns (length ns) (refuses 15 1) a)) h

    module _ (k : ℕ) (z : q ≡ Some k) where
      held : (d : Deep (Unit {0})) × (near_level ≡ gives d)
      held = go near_level refl
        where
          go : (a : Answer (Deep (Unit {0}))) → near_level ≡ a → (d : Deep (Unit {0})) × (near_level ≡ gives d)
          go (gives d) h = (d, h)
          go (refuses n p) h = some-not (sym z ∙ depth-found ∙ ap depth_of h)

      depth_same : k ≡ held.0.depth
      depth_same = some-same (sym z ∙ depth-found ∙ ap depth_of held.1)

      pub level-range : (k ≤ scope.count) × (k < component_limit)
      level-range =
          let r = level-deep limits (omega arith) ws ok c ns held.0 held.1 in
          omega (arith, r.1, r.2, depth_same, length-path scope)

      pub level-found : (name : AmlName) → name ≡ name_of component_limit (take k ns ++ (c ∷ []))
          → gives (record { memory = name; value = scope.count - k + 1 }) ≡ told component_limit (level_up_answer limits t c ns)
      level-found name h =
          same-told (h ∙ ap (λ (n : ℕ). name_of component_limit (take n ns ++ (c ∷ []))) depth_same)
          (ap₂ (λ (a b : ℕ). a - b + 1) (sym (length-path scope)) depth_same)
          ∙ ap (told component_limit) (sym (level-is ∙ ap (λ (a : Answer (Deep (Unit {0}))). named c (λ f. f.asked) (found_of ns (length ns) (refuses 15 1) a)) held.1))

-- any other path
module _ (m : Limits) (t : Tree) (cs ss : List Component) where
  pub once-path : (n p : ℕ) → resolved m.components cs ss ≡ refuses n p → search_once_answer m t cs ss ≡ refuses n p
  unfolding search_once_answer
  once-path n p h = rw h

  pub once-refused : (ns : List Component) (n p : ℕ) → resolved m.components cs ss ≡ gives ns → refuses n p ≡ look_up_answer t (keys ns) → search_once_answer m t cs ss ≡ refuses n p
  unfolding search_once_answer
  once-refused ns n p h l = rw (h, sym l)

  pub once-found : (ns : List Component) (h : ℕ) → resolved m.components cs ss ≡ gives ns → gives h ≡ look_up_answer t (keys ns)
      → search_once_answer m t cs ss ≡ gives (record { path = ns; value = record { handle = h; asked = 1 } })
  unfolding search_once_answer
  once-found ns h e l = rw (e, sym l)

-- the whole call of a bare segment, from a scope whose normal form is ns
module _ (m : Limits) (ws : List ℕ) (path scope : AmlName) (ok : is_well_formed m ws ≡ true) (hp : path_ok m.components path ≡ true) where
  pub search-bare : (ns : List Component) → and_then (path_in_answer m.components scope) (settled m.components) ≡ gives ns → one_segment (path_of_name path) ≡ true
      → search_up_answer m (decode m ws) (first_of (path_of_name path)) ns ≡ search_call m ws path scope
  unfolding search_call
  search-bare ns h b = rw (means-formed m ws ok, ← tested m.components path hp) (go (path_in_answer m.components scope) h)
    where
      go : (a : Answer (List Component)) → and_then a (settled m.components) ≡ gives ns
          → search_up_answer m (decode m ws) (first_of (path_of_name path)) ns
          ≡ and_then a (λ ss. and_then (settled m.components ss) (λ ns. cond (one_segment (path_of_name path)) (search_up_answer m (decode m ws) (first_of (path_of_name path)) ns) (search_once_answer m (decode m ws) (path_of_name path) ns)))
      go (gives ss) e = rw (e, b)
      go (refuses n p) e = refuses-not e

  pub level-bare : one_segment (path_of_name path) ≡ true → (ns : List Component) → and_then (path_in_answer m.components scope) (settled m.components) ≡ gives ns
      → level_up_answer m (decode m ws) (first_of (path_of_name path)) ns ≡ level_call m ws path scope
  unfolding level_call
  level-bare b ns h = rw (means-formed m ws ok, ← tested m.components path hp) (go (path_in_answer m.components scope) h)
    where
      go : (a : Answer (List Component)) → and_then a (settled m.components) ≡ gives ns
          → level_up_answer m (decode m ws) (first_of (path_of_name path)) ns
          ≡ and_then a (λ ss. cond (one_segment (path_of_name path)) (and_then (settled m.components ss) (λ ns. level_up_answer m (decode m ws) (first_of (path_of_name path)) ns)) (gives (record { path = path_of_name path; value = 0 })))
      go (gives ss) e = rw (b, e)
      go (refuses n p) e = refuses-not e
