-- NameString as a grammar: which bytes spell which components, written without the reader.
use Rattle.std.specs.Prelude.{ℕ, zero, suc, ◌≡◌, true, List, [], ◌∷◌, ◌++◌}
use Rattle.name_object.specs.Component.{Component, root, up, seg, lead_ok, char_ok}

-- a lead, then three of lead or digit
pub data Segment : Component → List ℕ → Type 0 where
  four : {a b c d : ℕ} → lead_ok a ≡ true → char_ok b ≡ true → char_ok c ≡ true → char_ok d ≡ true → Segment (seg a b c d) (a ∷ b ∷ c ∷ d ∷ [])

-- that many segments in a row
pub data Segments : ℕ → List Component → List ℕ → Type 0 where
  none : Segments zero [] []
  more : {n : ℕ} {c : Component} {cs : List Component} {s t : List ℕ} → Segment c s → Segments n cs t → Segments (suc n) (c ∷ cs) (s ++ t)

-- 00 (none), 2E and two segments, 2F and a count byte and that many, or one segment
pub data NamePath : List Component → List ℕ → Type 0 where
  null : NamePath [] (0x00 ∷ [])
  dual : {cs : List Component} {s : List ℕ} → Segments 2 cs s → NamePath cs (0x2E ∷ s)
  multi : {n : ℕ} {cs : List Component} {s : List ℕ} → Segments n cs s → NamePath cs (0x2F ∷ n ∷ s)
  one : {cs : List Component} {s : List ℕ} → Segments 1 cs s → NamePath cs s

-- any number of `^`, and then a NamePath
pub data Prefixed : List Component → List ℕ → Type 0 where
  plain : {cs : List Component} {s : List ℕ} → NamePath cs s → Prefixed cs s
  above : {cs : List Component} {s : List ℕ} → Prefixed cs s → Prefixed (up ∷ cs) (0x5E ∷ s)

-- `\` and a NamePath, or any number of `^` and a NamePath
pub data NameString : List Component → List ℕ → Type 0 where
  rooted : {cs : List Component} {s : List ℕ} → NamePath cs s → NameString (root ∷ cs) (0x5C ∷ s)
  prefixed : {cs : List Component} {s : List ℕ} → Prefixed cs s → NameString cs s
