-- Normalising, resolving and the parent, over the components of a path.
use Rattle.std.specs.Prelude.{ℕ, Bool, true, false, cond, leb, length, get_or}
use mathlib.Core.List.{List, [], ◌∷◌, ◌++◌, reverse, drop_last}
use Rattle.pkg_length.specs.Refusal.{Answer, gives, refuses, and_then}
use Rattle.name_object.specs.Component.{Component, root, up, seg, is_seg_ok}

-- one component more, on those that stand, the last one first: a `^` takes away the segment before it, else 10
unfoldable pub step : Answer (List Component) → Component → Answer (List Component)
step (refuses n p) c = refuses n p
step (gives done) root = gives (root ∷ done)
step (gives done) (seg a b c d) = gives (seg a b c d ∷ done)
step (gives []) up = refuses 10 0
step (gives (root ∷ done)) up = refuses 10 0
step (gives (up ∷ done)) up = refuses 10 0
step (gives (seg a b c d ∷ done)) up = gives done

-- left to right
unfoldable pub walk : Answer (List Component) → List Component → Answer (List Component)
walk s [] = s
walk s (c ∷ cs) = walk (step s c) cs

-- the components in their order
unfoldable pub upright : List Component → List Component
upright done = reverse done

-- a result over `limit` components: 9
unfoldable pub limited : ℕ → List Component → Answer (List Component)
limited limit cs = cond (leb (length cs) limit) (gives cs) (refuses 9 0)

-- the normal form; only what it ends with is held to the limit
unfoldable pub normal : ℕ → List Component → Answer (List Component)
normal limit cs = and_then (walk (gives []) cs) (λ done. limited limit (upright done))

-- `\` stands first
abbrev pub absolute : List Component → Bool
absolute [] = false
absolute (root ∷ cs) = true
absolute (up ∷ cs) = false
absolute (seg a b c d ∷ cs) = false

-- no `^` in it
abbrev pub is_normal_path : List Component → Bool
is_normal_path [] = true
is_normal_path (root ∷ cs) = is_normal_path cs
is_normal_path (up ∷ cs) = false
is_normal_path (seg a b c d ∷ cs) = is_normal_path cs

-- one bare segment: the paths that a search asks for in each enclosing scope
abbrev pub one_segment : List Component → Bool
one_segment [] = false
one_segment (root ∷ cs) = false
one_segment (up ∷ cs) = false
one_segment (seg a b c d ∷ []) = true
one_segment (seg a b c d ∷ x ∷ cs) = false

-- an absolute scope, else 11; an absolute path alone, else joined to the scope
unfoldable pub resolved : ℕ → List Component → List Component → Answer (List Component)
resolved limit cs scope = cond (absolute scope) (cond (absolute cs) (normal limit cs) (normal limit (scope ++ cs))) (refuses 11 0)

-- `\` or empty
abbrev pub top : List Component → Bool
top [] = true
top (root ∷ []) = true
top (root ∷ x ∷ cs) = false
top (up ∷ cs) = false
top (seg a b c d ∷ cs) = false

-- the normal form without its last segment, 12 where there is none
unfoldable pub parent_of : ℕ → List Component → Answer (List Component)
parent_of limit cs = and_then (normal limit cs) (λ ns. cond (top ns) (refuses 12 0) (gives (drop_last ns)))

-- four bytes as a path of one segment, 26 where they are none
unfoldable pub segment_path : List ℕ → Answer (List Component)
segment_path bs =
    cond (is_seg_ok (get_or bs 0 0) (get_or bs 1 0) (get_or bs 2 0) (get_or bs 3 0))
    (gives (seg (get_or bs 0 0) (get_or bs 1 0) (get_or bs 2 0) (get_or bs 3 0) ∷ []))
    (refuses 26 0)
