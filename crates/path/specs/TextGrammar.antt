-- Text as a grammar: which bytes spell which components, written without the reader.
use Rattle.std.specs.Prelude.{ℕ, ◌<◌, ◌≡◌, true, List, [], ◌∷◌, ◌++◌, length}
use Rattle.name_object.specs.Component.{Component, root, up, lead_ok, char_ok}
use Rattle.path.specs.Text.{padded}

-- a segment of 1 to 4 characters: a lead, and then name characters
pub data Word : List ℕ → Type 0 where
  lead : {a : ℕ} → lead_ok a ≡ true → Word (a ∷ [])
  next : (b : ℕ) {s : List ℕ} → Word s → char_ok b ≡ true → length s < 4 → Word (s ++ (b ∷ []))

-- any number of `^`, and then a segment, padded with `_`
pub data Part : List Component → List ℕ → Type 0 where
  word : {s : List ℕ} → Word s → Part (padded s ∷ []) s
  above : {cs : List Component} {s : List ℕ} → Part cs s → Part (up ∷ cs) (0x5E ∷ s)

-- parts, with dots between them
pub data Parts : List Component → List ℕ → Type 0 where
  last : {cs : List Component} {s : List ℕ} → Part cs s → Parts cs s
  more : {cs ds : List Component} {s t : List ℕ} → Part cs s → Parts ds t → Parts (cs ++ ds) (s ++ 0x2E ∷ t)

-- `\` alone, or an optional `\` and then parts
pub data Text : List Component → List ℕ → Type 0 where
  bare : Text (root ∷ []) (0x5C ∷ [])
  rooted : {cs : List Component} {s : List ℕ} → Parts cs s → Text (root ∷ cs) (0x5C ∷ s)
  plain : {cs : List Component} {s : List ℕ} → Parts cs s → Text cs s
