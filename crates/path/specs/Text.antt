-- Paths as text: reading as `from_str`, writing as `as_string`.
use Rattle.std.specs.Prelude.{ℕ, suc, cond, List, [], ◌∷◌, ◌++◌, leb, ltb, eqb, length, get_or}
use Rattle.pkg_length.specs.Refusal.{Answer, gives, refuses, and_then}
use Rattle.name_object.specs.Component.{Component, root, up, seg, lead_ok, char_ok}
use Rattle.path.specs.Normal.{limited}

-- where a reader of text stands: before a segment, or in one, with where it starts and its characters so far
pub data Place : Type 0 where
  before : Place
  inside : ℕ → List ℕ → Place

-- a segment of 1 to 4 characters, padded with `_`
unfoldable pub padded : List ℕ → Component
padded bs = seg (get_or bs 0 0x5F) (get_or bs 1 0x5F) (get_or bs 2 0x5F) (get_or bs 3 0x5F)

-- one component before those that follow
abbrev pub consed : Component → Answer (List Component) → Answer (List Component)
consed c r = and_then r (λ cs. gives (c ∷ cs))

-- dot-separated parts from offset p on, each any number of `^` and a segment: 8 where a segment is wrong, at its start
unfoldable pub reading : Place → ℕ → List ℕ → Answer (List Component)
reading before p [] = refuses 8 p
reading before p (b ∷ s) =
    cond (eqb b 0x5E) (consed up (reading before (suc p) s))
    (cond (lead_ok b) (reading (inside p (b ∷ [])) (suc p) s)
    (refuses 8 p))
reading (inside q bs) p [] = gives (padded bs ∷ [])
reading (inside q bs) p (b ∷ s) =
    cond (eqb b 0x2E) (consed (padded bs) (reading before (suc p) s))
    (cond (char_ok b) (cond (ltb (length bs) 4) (reading (inside q (bs ++ (b ∷ []))) (suc p) s) (refuses 8 q))
    (refuses 8 q))

-- what follows a `\`: nothing, or parts
unfoldable pub after_root : List ℕ → Answer (List Component)
after_root [] = gives (root ∷ [])
after_root (b ∷ s) = consed root (reading before 1 (b ∷ s))

-- by the grammar alone: 7 for empty text; a `\`, alone or before the parts; else the parts
unfoldable pub text_path : List ℕ → Answer (List Component)
text_path [] = refuses 7 0
text_path (b ∷ s) = cond (eqb b 0x5C) (after_root s) (reading before 0 (b ∷ s))

-- within the limit: grammar faults come first
unfoldable pub from_text : ℕ → List ℕ → Answer (List Component)
from_text limit text = and_then (text_path text) (limited limit)

-- the text of components: `\`, `^` and four characters, and a dot between a segment and what follows it
unfoldable pub text_of : List Component → List ℕ
text_of [] = []
text_of (root ∷ cs) = 0x5C ∷ text_of cs
text_of (up ∷ cs) = 0x5E ∷ text_of cs
text_of (seg a b c d ∷ []) = a ∷ b ∷ c ∷ d ∷ []
text_of (seg a b c d ∷ x ∷ cs) = a ∷ b ∷ c ∷ d ∷ 0x2E ∷ text_of (x ∷ cs)

-- the text of a path, 25 where there is no room for it
unfoldable pub text_within : ℕ → List Component → Answer (List ℕ)
text_within room cs = cond (leb (length (text_of cs)) room) (gives (text_of cs)) (refuses 25 0)
