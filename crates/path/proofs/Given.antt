-- What every call hands over passes the test of a path, and so does the empty path, which stands for it where the call refuses:
-- so no layer above need test a path that a call made. A call gives components that are fine and within the limit, from a path that is so.
use mathlib.Core.Path.{◌≡◌, refl, sym, ◌∙◌, ap}
use mathlib.Core.Bool.{Bool, true, false, cond}
use mathlib.Core.List.{List, [], ◌∷◌, drop_last}
use Prim.Native.Nat.{ℕ, ◌≤◌, ◌<◌}
use native.Mathlib.Omega.{arith}
use lib.ListN.{length, get_or, length-append}
use Rattle.pkg_length.specs.Refusal.{Answer, gives, refuses, and_then}
use Rattle.pkg_length.proofs.Answers.{refuses-not, gives_same}
use Rattle.name_object.specs.Component.{Component, root, seg, is_seg_ok, fine}
use Rattle.name_object.specs.Memory.{name_of, popped, path_ok, path_of_name, path_in_answer, named, handed}
use Rattle.name_object.specs.declared.AmlName.{AmlName}
use Rattle.name_object.proofs.Paths.{path-fine, fine-path, named-is-path}
use Rattle.path.specs.Normal.{normal, resolved, top, parent_of, segment_path}
use Rattle.path.specs.Text.{from_text}
use Rattle.path.proofs.Walks.{length-path, fine-front}
use Rattle.path.proofs.Laws.{normalised, resolved-kept, parent-less}
use Rattle.path.proofs.Answers.{parent-by, parent-memory, length_last}
use Rattle.path.proofs.Texts.{text-sound, text-fine}

-- components that a path has: fine, and within the limit
pub record Good (limit : ℕ) (cs : List Component) : Type 0 where
  pub good : fine true cs ≡ true
  pub room : length cs ≤ limit

-- what an answer gives are such components
Gives : ℕ → Answer (List Component) → Type 0
Gives limit a = (cs : List Component) → a ≡ gives cs → Good limit cs

-- an answer that gives such components hands over a path, whatever it says
abbrev pub HandsPath : ℕ → Answer (List Component) → Type 0
HandsPath limit a = path_ok limit (handed limit (λ name. name) (named limit a)) ≡ true

hands-path : (limit : ℕ) (a : Answer (List Component)) → Gives limit a → HandsPath limit a
unfolding Gives
hands-path limit a k = named-is-path limit a (λ cs e. let g = k cs e in (g.good, g.room))

-- memory that a call is lent: what follows is asked only of a path
in_path : (limit : ℕ) (name : AmlName) (f : List Component → Answer (List Component)) → ((cs : List Component) → Good limit cs → Gives limit (f cs)) →
    Gives limit (and_then (path_in_answer limit name) f)
unfolding Gives path_in_answer
in_path limit name f k ds h = go (path_ok limit name) refl h
  where
    go : (t : Bool) → path_ok limit name ≡ t → and_then (cond t (gives (path_of_name name)) (refuses 26 0)) f ≡ gives ds → Good limit ds
    go true e h = let p = path-fine limit name e in k (path_of_name name) (record { good = p.0; room = rw (length-path name) p.1 }) ds h
    go false e h = refuses-not h

normal-good : (limit : ℕ) (name : AmlName) → Gives limit (and_then (path_in_answer limit name) (normal limit))
unfolding Gives
normal-good limit name = in_path limit name (normal limit) (λ cs g ds h. let n = normalised limit cs ds g.good h in record { good = n.good; room = n.room })

-- ## The parent, from the normal form in memory

module _ (limit : ℕ) (name m : AmlName) (ns : List Component) (e : and_then (path_in_answer limit name) (normal limit) ≡ gives ns) (is : m ≡ name_of limit ns) where
  good : Good limit ns
  unfolding Gives
  good = normal-good limit name ns e

  held : path_of_name m ≡ ns
  held = ap path_of_name is ∙ (fine-path limit ns good.good good.room).1

  pub parent-top : top (path_of_name m) ≡ true → refuses 12 0 ≡ and_then (path_in_answer limit name) (parent_of limit)
  parent-top t = sym (rw (sym (ap top held) ∙ t)) ∙ parent-by limit name e

  module _ (t : top (path_of_name m) ≡ false) where
    pub parent-given : gives (drop_last ns) ≡ and_then (path_in_answer limit name) (parent_of limit)
    parent-given = sym (rw (sym (ap top held) ∙ t)) ∙ parent-by limit name e

    pub parent-popped : popped m ≡ name_of limit (drop_last ns)
    parent-popped = ap popped is ∙ parent-memory limit ns (sym (ap top held) ∙ t) good.room

    pub parent-count : (0 < m.count) × (m.count ≤ limit)
    parent-count =
        let c : m.count ≡ length ns = sym (length-path m) ∙ ap length held in
        (omega (arith, length_last ns (sym (ap top held) ∙ t)), omega (arith, good.room))

-- ## The calls

module _ (limit : ℕ) where
  pub text-is-path : (text : List ℕ) → HandsPath limit (from_text limit text)
  unfolding Gives
  text-is-path text = hands-path limit (from_text limit text) (λ cs h. let t = text-sound limit text cs h in record { good = text-fine t.0; room = t.1 })

  pub components-is-path : (name : AmlName) → HandsPath limit (path_in_answer limit name)
  unfolding Gives
  components-is-path name =
      hands-path limit (path_in_answer limit name) (λ cs h. in_path limit name gives (λ ds g es k. rw (gives_same k) at g) cs (ap (λ (a : Answer (List Component)). and_then a gives) h))

  pub normal-is-path : (name : AmlName) → HandsPath limit (and_then (path_in_answer limit name) (normal limit))
  normal-is-path name = hands-path limit _ (normal-good limit name)

  pub parent-is-path : (name : AmlName) → HandsPath limit (and_then (path_in_answer limit name) (parent_of limit))
  unfolding Gives
  parent-is-path name =
      hands-path limit _ (in_path limit name (parent_of limit) (λ cs g ds h.
      let p = parent-less limit cs ds h in
      let n = normalised limit cs p.0 g.good p.2 in
      record { good = fine-front true ds (p.1 ∷ []) (rw p.3 at n.good); room = omega (arith, n.room, ap length p.3, length-append ds (p.1 ∷ [])) }))

  pub resolved-is-path : (name scope : AmlName) →
      HandsPath limit (and_then (path_in_answer limit name) (λ cs. and_then (path_in_answer limit scope) (λ ss. resolved limit cs ss)))
  unfolding Gives
  resolved-is-path name scope =
      hands-path limit _ (in_path limit name _ (λ cs g. in_path limit scope (resolved limit cs) (λ ss k ds h.
      let r = resolved-kept limit cs ss ds g.good k.good h in record { good = r.good; room = r.room })))

  pub segment-is-path : (bs : List ℕ) → 0 < limit → HandsPath limit (segment_path bs)
  unfolding Gives segment_path
  segment-is-path bs l = hands-path limit _ (λ cs h. go (is_seg_ok (get_or bs 0 0) (get_or bs 1 0) (get_or bs 2 0) (get_or bs 3 0)) refl cs h)
    where
      go : (t : Bool) → is_seg_ok (get_or bs 0 0) (get_or bs 1 0) (get_or bs 2 0) (get_or bs 3 0) ≡ t → (cs : List Component) →
          cond t (gives (seg (get_or bs 0 0) (get_or bs 1 0) (get_or bs 2 0) (get_or bs 3 0) ∷ [])) (refuses 26 0) ≡ gives cs → Good limit cs
      go true e cs h = rw (sym (gives_same h)) (record { good = unfold fine in rw e; room = omega arith })
      go false e cs h = refuses-not h

  pub root-is-path : 0 < limit → path_ok limit (name_of limit (root ∷ [])) ≡ true
  root-is-path l = (fine-path limit (root ∷ []) (unfold fine in refl) (omega arith)).0
