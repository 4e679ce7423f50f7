-- What a caller learns from an answer, and the parent, which is made of one.
use mathlib.Core.Path.{◌≡◌, refl, sym, ◌∙◌, ap}
use mathlib.Core.Bool.{false, cond}
use mathlib.Core.List.{List, [], ◌∷◌, ◌++◌, drop_last}
use Prim.Native.Nat.{ℕ, ◌+◌, ◌≤◌, ◌<◌}
use native.Mathlib.Omega.{arith}
use lib.ListN.{length, length-append}
use Rattle.pkg_length.specs.Refusal.{Answer, gives, refuses, and_then}
use Rattle.pkg_length.proofs.Answers.{wrong, refuses-not, gives_same, refuses-as}
use Rattle.name_object.specs.Component.{Component}
use Rattle.name_object.specs.Memory.{name_of, popped, path_in_answer, named}
use Rattle.name_object.specs.declared.AmlName.{AmlName}
use Rattle.name_object.proofs.Memory.{one-view, pop-one}
use Rattle.path.specs.Normal.{normal, top, parent_of}

-- an answer gives a path where there is one, and has it in memory
pub named-given : (limit : ℕ) (a : Answer (List Component)) (name : AmlName) → gives name ≡ named limit a → (cs : List Component) × (a ≡ gives cs) × (name ≡ name_of limit cs)
named-given limit (gives cs) name h = (cs, refl, gives_same h)
named-given limit (refuses n p) name h = refuses-not (sym h)

-- and else the refusal's number and place
pub named-refused : (limit : ℕ) (a : Answer (List Component)) (n p : ℕ) → refuses n p ≡ named limit a → refuses n p ≡ a
named-refused limit (gives cs) n p h = refuses-not h
named-refused limit (refuses m q) n p h = refuses-as h

-- ## The parent

top-some : (cs : List Component) → top cs ≡ false → 0 < length cs
top-some [] h = wrong refl h
top-some (x ∷ cs) h = omega arith

-- components, and the last of them
pub split-last : (cs : List Component) → top cs ≡ false → (x : Component) × (cs ≡ drop_last cs ++ (x ∷ []))
split-last cs t = go cs (top-some cs t)
  where
    go : (cs : List Component) → 0 < length cs → (x : Component) × (cs ≡ drop_last cs ++ (x ∷ []))
    go [] h = absurd (omega arith)
    go (a ∷ []) h = (a, refl)
    go (a ∷ b ∷ cs) h = let r = go (b ∷ cs) (omega arith) in (r.0, ap (λ (l : List Component). a ∷ l) r.1)

pub length_last : (cs : List Component) → top cs ≡ false → length cs ≡ length (drop_last cs) + 1
length_last cs t = let s = split-last cs t in ap length s.1 ∙ length-append (drop_last cs) (s.0 ∷ [])

-- the normal form decides, whether memory held a path or not
abbrev pub parent_by : Answer (List Component) → Answer (List Component)
parent_by a = and_then a (λ ns. cond (top ns) (refuses 12 0) (gives (drop_last ns)))

pub parent-by : (limit : ℕ) (name : AmlName) {a : Answer (List Component)} → and_then (path_in_answer limit name) (normal limit) ≡ a → parent_by a ≡ and_then (path_in_answer limit name) (parent_of limit)
unfolding parent_of
parent-by limit name e = rw (sym e) (go (path_in_answer limit name))
  where
    go : (p : Answer (List Component)) → parent_by (and_then p (normal limit)) ≡ and_then p (λ cs. parent_by (normal limit cs))
    go (gives cs) = refl
    go (refuses n p) = refl

-- in memory, the last component goes
pub parent-memory : (limit : ℕ) (ns : List Component) → top ns ≡ false → length ns ≤ limit → popped (name_of limit ns) ≡ name_of limit (drop_last ns)
parent-memory limit ns t l =
    let s = split-last ns t in
    let v = one-view s.0 in
    ap (λ (cs : List Component). popped (name_of limit cs)) s.1
    ∙ pop-one limit (drop_last ns) s.0 v.0 v.1 v.2 v.3 (omega (arith, length_last ns t)) v.4
