-- The components of a path, and the characters of a segment.
use Rattle.std.specs.Prelude.{ℕ, Bool, true, false, ◌&&◌, ◌||◌, List, [], ◌∷◌, ◌++◌, leb, eqb}

-- the root `\`, a `^`, or a segment of four bytes
pub data Component : Type 0 where
  root : Component
  up : Component
  seg : ℕ → ℕ → ℕ → ℕ → Component

-- components in a path at most; every definition and law takes it as a parameter, and the code's contracts name it here
abbrev pub component_limit : ℕ
component_limit = 32

-- A-Z or _
unfoldable pub lead_ok : ℕ → Bool
lead_ok b = eqb b 0x5F || (leb 0x41 b && leb b 0x5A)

-- 0-9
unfoldable pub digit_ok : ℕ → Bool
digit_ok b = leb 0x30 b && leb b 0x39

-- a lead or a digit
unfoldable pub char_ok : ℕ → Bool
char_ok b = lead_ok b || digit_ok b

-- a lead, then three of lead or digit
unfoldable pub is_seg_ok : ℕ → ℕ → ℕ → ℕ → Bool
is_seg_ok a b c d = lead_ok a && char_ok b && char_ok c && char_ok d

-- components that make a path: `\` only first, segments of name characters
unfoldable pub fine : Bool → List Component → Bool
fine first [] = true
fine first (root ∷ cs) = first && fine false cs
fine first (up ∷ cs) = fine false cs
fine first (seg a b c d ∷ cs) = is_seg_ok a b c d && fine false cs

-- the four bytes of a component: a segment, or 5C or 5E and zeros
abbrev pub spell_one : Component → List ℕ
spell_one root = 0x5C ∷ 0 ∷ 0 ∷ 0 ∷ []
spell_one up = 0x5E ∷ 0 ∷ 0 ∷ 0 ∷ []
spell_one (seg a b c d) = a ∷ b ∷ c ∷ d ∷ []

unfoldable pub spell : List Component → List ℕ
spell [] = []
spell (c ∷ cs) = spell_one c ++ spell cs
