-- What the layers above cite of normalising, resolving and the parent. A walk keeps what stands good, and a root that stands first stays first.
use mathlib.Core.Path.{◌≡◌, refl, sym, ◌∙◌, ap}
use mathlib.Core.Bool.{Bool, true, false, ◌||◌, cond, or-false}
use mathlib.Core.List.{List, [], ◌∷◌, ◌++◌, reverse_aux, reverse-reverse, drop_last}
use Prim.Native.Nat.{ℕ, ◌+◌, ◌≤◌}
use native.Mathlib.Omega.{arith}
use lib.ListN.{length}
use Rattle.pkg_length.specs.Refusal.{Answer, gives, refuses}
use Rattle.pkg_length.proofs.Answers.{halves, never, refuses-not, gives_same, then-gives}
use Rattle.name_object.specs.Component.{Component, root, up, seg, is_seg_ok, fine}
use Rattle.path.specs.Normal.{step, walk, upright, limited, normal, absolute, is_normal_path, resolved, top, parent_of}
use Rattle.path.specs.Inside.{standing}
use Rattle.path.proofs.Walks.{walk_refused, length-upright, upright-cons, walk-good, fine-append, fine-relative, limited-in, normal-given, normal-by}
use Rattle.path.proofs.Answers.{split-last}

-- ## What a walk came to

-- a segment more behind fine components
fine-seg : (a b c d : ℕ) → is_seg_ok a b c d ≡ true → fine false (seg a b c d ∷ []) ≡ true
unfolding fine
fine-seg a b c d h = rw h

plain-last : (cs : List Component) (a b c d : ℕ) → is_normal_path cs ≡ true → is_normal_path (cs ++ (seg a b c d ∷ [])) ≡ true
plain-last [] a b c d h = refl
plain-last (root ∷ cs) a b c d h = plain-last cs a b c d h
plain-last (up ∷ cs) a b c d h = never h
plain-last (seg p q r s ∷ cs) a b c d h = plain-last cs a b c d h

first-last : (cs : List Component) (a b c d : ℕ) → absolute (cs ++ (seg a b c d ∷ [])) ≡ absolute cs
first-last [] a b c d = refl
first-last (root ∷ cs) a b c d = refl
first-last (up ∷ cs) a b c d = refl
first-last (seg p q r s ∷ cs) a b c d = refl

-- what stands, in its order: fine, without a prefix, and absolute where a root stands below
stood : (r : Bool) (done : List Component) → standing r done ≡ true → (fine true (upright done) ≡ true) × (is_normal_path (upright done) ≡ true) × (absolute (upright done) ≡ r)
unfolding standing upright fine
stood true [] h = never h
stood false [] h = (refl, refl, refl)
stood r (root ∷ []) h = (refl, refl, sym h)
stood r (root ∷ x ∷ done) h = never h
stood r (up ∷ done) h = never h
stood r (seg a b c d ∷ done) h =
    let g = halves (is_seg_ok a b c d) (standing r done) h in
    let k = stood r done g.1 in
    rw (upright-cons (seg a b c d) done)
    (fine-append true (upright done) (seg a b c d ∷ []) k.0 (fine-seg a b c d g.0), plain-last (upright done) a b c d k.1, first-last (upright done) a b c d ∙ k.2)

-- the result of normalising
pub record Normalised (limit : ℕ) (cs ds : List Component) : Type 0 where
  pub good : fine true ds ≡ true
  pub room : length ds ≤ limit
  pub plain : is_normal_path ds ≡ true
  pub first : absolute ds ≡ absolute cs

pub normalised : (limit : ℕ) (cs ds : List Component) → fine true cs ≡ true → normal limit cs ≡ gives ds → Normalised limit cs ds
normalised limit cs ds f h =
    let e = normal-given limit cs ds h in
    let k = stood (absolute cs || false) e.0 (walk-good false cs [] e.0 none f e.1) in
    rw (sym e.2) (record { good = k.0; room = rw e.2 e.3; plain = k.1; first = k.2 ∙ or-false (absolute cs) })
  where
    none : standing false [] ≡ true
    none = unfold standing in refl

-- the normal form has no prefix
pub normal-plain : (limit : ℕ) (cs ds : List Component) → fine true cs ≡ true → normal limit cs ≡ gives ds → is_normal_path ds ≡ true
normal-plain limit cs ds f h = (normalised limit cs ds f h).plain

-- a path with no prefix is its own normal form
walk-plain : (cs done : List Component) → is_normal_path cs ≡ true → walk (gives done) cs ≡ gives (reverse_aux cs done)
unfolding walk step
walk-plain [] done h = refl
walk-plain (root ∷ cs) done h = walk-plain cs (root ∷ done) h
walk-plain (up ∷ cs) done h = never h
walk-plain (seg a b c d ∷ cs) done h = walk-plain cs (seg a b c d ∷ done) h

pub normal-same : (limit : ℕ) (cs : List Component) → is_normal_path cs ≡ true → length cs ≤ limit → normal limit cs ≡ gives cs
unfolding upright
normal-same limit cs h l = sym (normal-by limit cs (walk-plain cs [] h)) ∙ ap (limited limit) (reverse-reverse cs) ∙ limited-in limit cs l

-- normalising is idempotent
pub normal-again : (limit : ℕ) (cs ds : List Component) → fine true cs ≡ true → normal limit cs ≡ gives ds → normal limit ds ≡ gives ds
normal-again limit cs ds f h = normal-same limit ds (normal-plain limit cs ds f h) (normalised limit cs ds f h).room

-- a path within the limit is never refused with 9: a walk adds one component at most for each, or ends with 10
Ends : ℕ → Answer (List Component) → Type 0
Ends m (gives ds) = length ds ≤ m
Ends m (refuses n p) = (n ≡ 10) × (p ≡ 0)

ends_more : (m k : ℕ) (w : Answer (List Component)) → m ≤ k → Ends m w → Ends k w
unfolding Ends
ends_more m k (gives ds) l h = omega arith
ends_more m k (refuses n p) l h = h

walk_ends : (cs done : List Component) → Ends (length done + length cs) (walk (gives done) cs)
unfolding walk step Ends
walk_ends [] done = omega arith
walk_ends (root ∷ cs) done = ends_more _ _ (walk (gives (root ∷ done)) cs) (omega arith) (walk_ends cs (root ∷ done))
walk_ends (seg a b c d ∷ cs) done = ends_more _ _ (walk (gives (seg a b c d ∷ done)) cs) (omega arith) (walk_ends cs (seg a b c d ∷ done))
walk_ends (up ∷ cs) [] = rw (walk_refused cs 10 0) (refl, refl)
walk_ends (up ∷ cs) (root ∷ done) = rw (walk_refused cs 10 0) (refl, refl)
walk_ends (up ∷ cs) (up ∷ done) = rw (walk_refused cs 10 0) (refl, refl)
walk_ends (up ∷ cs) (seg a b c d ∷ done) = ends_more _ _ (walk (gives done) cs) (omega arith) (walk_ends cs done)

pub normal-ten : (limit : ℕ) (cs : List Component) (n p : ℕ) → length cs ≤ limit → normal limit cs ≡ refuses n p → (n ≡ 10) × (p ≡ 0)
unfolding Ends
normal-ten limit cs n p l h = go (walk (gives []) cs) refl (walk_ends cs [])
  where
    go : (w : Answer (List Component)) → walk (gives []) cs ≡ w → Ends (0 + length cs) w → (n ≡ 10) × (p ≡ 0)
    go (refuses m q) e r =
        let s : refuses m q ≡ refuses n p = normal-by limit cs e ∙ h in
        let s₁ : m ≡ n = cc in
        let s₂ : q ≡ p = cc in
        (sym s₁ ∙ r.0, sym s₂ ∙ r.1)
    go (gives done) e r =
        let k = limited-in limit (upright done) (omega (arith, length-upright done)) in
        refuses-not (sym h ∙ sym (normal-by limit cs e) ∙ k)

-- a path that can be kept: absolute, with no prefix, fine and within the limit
pub record Kept (limit : ℕ) (cs : List Component) : Type 0 where
  pub rooted : absolute cs ≡ true
  pub plain : is_normal_path cs ≡ true
  pub good : fine true cs ≡ true
  pub room : length cs ≤ limit

pub normal-kept : (limit : ℕ) (cs ds : List Component) → fine true cs ≡ true → absolute cs ≡ true → normal limit cs ≡ gives ds → Kept limit ds
normal-kept limit cs ds f a h = let n = normalised limit cs ds f h in record { rooted = n.first ∙ a; plain = n.plain; good = n.good; room = n.room }

-- the root, and then segments alone
pub kept-view : (limit : ℕ) (cs : List Component) → Kept limit cs → (es : List Component) × (cs ≡ root ∷ es) × (fine false es ≡ true) × (is_normal_path es ≡ true)
unfolding fine
kept-view limit [] k = never k.rooted
kept-view limit (root ∷ cs) k = (cs, refl, k.good, k.plain)
kept-view limit (up ∷ cs) k = never k.rooted
kept-view limit (seg a b c d ∷ cs) k = never k.rooted

first-append : (cs ds : List Component) → absolute cs ≡ true → absolute (cs ++ ds) ≡ true
first-append [] ds h = never h
first-append (root ∷ cs) ds h = refl
first-append (up ∷ cs) ds h = never h
first-append (seg a b c d ∷ cs) ds h = never h

-- what is resolved can be kept
pub resolved-kept : (limit : ℕ) (cs scope ds : List Component) → fine true cs ≡ true → fine true scope ≡ true → resolved limit cs scope ≡ gives ds → Kept limit ds
unfolding resolved
resolved-kept limit cs scope ds f g h = go (absolute scope) (absolute cs) refl refl h
  where
    go : (t u : Bool) → absolute scope ≡ t → absolute cs ≡ u →
        cond t (cond u (normal limit cs) (normal limit (scope ++ cs))) (refuses 11 0) ≡ gives ds → Kept limit ds
    go false u p q h = refuses-not h
    go true true p q h = normal-kept limit cs ds f q h
    go true false p q h = normal-kept limit (scope ++ cs) ds (fine-append true scope cs g (fine-relative cs q f)) (first-append scope cs p) h

-- the parent is the normal form less one component
pub parent-less : (limit : ℕ) (cs ds : List Component) → parent_of limit cs ≡ gives ds →
    (ns : List Component) × (x : Component) × (normal limit cs ≡ gives ns) × (ns ≡ ds ++ (x ∷ []))
unfolding parent_of
parent-less limit cs ds h =
    let t = then-gives (normal limit cs) _ h in
    go t.0 t.1 (top t.0) refl t.2
  where
    go : (ns : List Component) → normal limit cs ≡ gives ns → (t : Bool) → top ns ≡ t → cond t (refuses 12 0) (gives (drop_last ns)) ≡ gives ds →
        (ns : List Component) × (x : Component) × (normal limit cs ≡ gives ns) × (ns ≡ ds ++ (x ∷ []))
    go ns e true t h = refuses-not h
    go ns e false t h = let s = split-last ns t in (ns, s.0, e, rw (sym (gives_same h)) s.1)
