-- The cases at document 01's twelve P marks, in its order, as one list: what the definitions that the public contracts cite say, beside what the paper says.
-- The twelfth has 01's value in a comment, and the number and place that R-3 of document 02 gives it.
-- An answer is shown as its numbers, so that all twelve are of one kind.
use Rattle.std.specs.Prelude.{ℕ, List, [], ◌∷◌, replicate}
use Rattle.pkg_length.specs.Refusal.{Answer, gives, refuses, and_then}
use Rattle.pkg_length.specs.declared.Pkg.{Pkg}
use Rattle.pkg_length.specs.Pkg.{pkg_length_answer}
use Rattle.name_object.specs.Component.{Component, component_limit, spell}
use Rattle.name_object.specs.Memory.{Named, named, handed, path_in_answer}
use Rattle.name_object.specs.Name.{name_string_answer}
use Rattle.name_object.specs.declared.AmlName.{AmlName}
use Rattle.path.specs.Normal.{normal}
use Rattle.path.specs.Text.{from_text}
use Rattle.table.specs.Limits.{limits}
use Rattle.table.specs.Memory.{Edited, left, size}
use Rattle.table.specs.Search.{Hit}
use Rattle.namespace.specs.declared.LevelType.TheVariants.{Scope}
use Rattle.namespace.specs.Calls.{new_call, add_level_call, add_value_call}
use Rattle.namespace.specs.Search.{search_call}
use Rattle.grammar.specs.Reader.{read_block}
use Rattle.statement.specs.declared.frame.Width.TheVariants.{Bits64}
use Rattle.statement.specs.Frames.{fresh}
use Rattle.statement.specs.Meaning.{Ended, finished, returned, break_out, continue_out, Outcome, mean}

-- raw length, end offset, bytes used
abbrev pub pkg_shown : Answer Pkg → Answer (List ℕ)
pkg_shown (gives p) = gives (p.length_read.raw_length ∷ p.length_read.end_offset ∷ p.used ∷ [])
pkg_shown (refuses n p) = refuses n p

-- bytes used, then the path as its bytes
abbrev pub name_shown : Answer (Named ℕ) → Answer (List ℕ)
name_shown (gives v) = gives (v.value ∷ spell v.path)
name_shown (refuses n p) = refuses n p

abbrev pub path_shown : Answer (List Component) → Answer (List ℕ)
path_shown (gives cs) = gives (spell cs)
path_shown (refuses n p) = refuses n p

-- the handle and the scopes asked, then the full name
abbrev pub hit_shown : Answer (Named Hit) → Answer (List ℕ)
hit_shown (gives v) = gives (v.value.handle ∷ v.value.asked ∷ spell v.path)
hit_shown (refuses n p) = refuses n p

-- Finished is 0, Returned 1 and its number, BreakOut 2, ContinueOut 3; then the units
abbrev pub end_shown : Answer Ended → ℕ → Answer (List ℕ)
end_shown (gives finished) u = gives (0 ∷ u ∷ [])
end_shown (gives (returned n)) u = gives (1 ∷ n ∷ u ∷ [])
end_shown (gives break_out) u = gives (2 ∷ u ∷ [])
end_shown (gives continue_out) u = gives (3 ∷ u ∷ [])
end_shown (refuses n p) u = refuses n p

abbrev pub run_shown : Outcome → Answer (List ℕ)
run_shown o = end_shown o.end o.units

-- each layer's definition at work, from the paper's input
abbrev pub pkg : List ℕ → Answer (List ℕ)
pkg bytes = pkg_shown (pkg_length_answer bytes)

abbrev pub name : List ℕ → Answer (List ℕ)
name bytes = name_shown (name_string_answer component_limit bytes)

-- the path in memory that text reading gives
abbrev pub typed : List ℕ → AmlName
typed text = handed component_limit (λ name. name) (named component_limit (from_text component_limit text))

abbrev pub normalised : List ℕ → Answer (List ℕ)
normalised text = path_shown (and_then (path_in_answer component_limit (typed text)) (normal component_limit))

-- the words that a call leaves
unfoldable pub after : {A : Type 0} → (List ℕ → Answer (Edited A)) → List ℕ → List ℕ
after call ws = (left limits ws (call ws)).words

-- from a fresh table: levels `\A___` and `\A___.B___`; X___ bound at `\` (0) and at `\A___` (1)
abbrev pub level_added : List ℕ → List ℕ → List ℕ
level_added text = after (λ ws. add_level_call limits ws (typed text) Scope)

abbrev pub value_added : List ℕ → List ℕ → List ℕ
value_added text = after (λ ws. add_value_call limits ws (typed text) 0)

unfoldable pub paper_table : List ℕ
paper_table =
    value_added (0x5C ∷ 0x41 ∷ 0x2E ∷ 0x58 ∷ [])
    (value_added (0x5C ∷ 0x58 ∷ [])
    (level_added (0x5C ∷ 0x41 ∷ 0x2E ∷ 0x42 ∷ [])
    (level_added (0x5C ∷ 0x41 ∷ [])
    (after (new_call limits) (replicate (size limits) 0)))))

unfoldable pub searched : List ℕ → List ℕ → Answer (List ℕ)
searched path scope = hit_shown (search_call limits paper_table (typed path) (typed scope))

-- from a fresh frame of 64 bits
abbrev pub run : List ℕ → ℕ → Answer (List ℕ)
run block budget = and_then (read_block block) (λ tree. run_shown (mean tree (fresh Bits64) budget))

-- one P mark, and where it marks two inputs, both
pub data Mark : Type 0 where
  mark : Answer (List ℕ) → Answer (List ℕ) → Mark
  marks : Answer (List ℕ) → Answer (List ℕ) → Answer (List ℕ) → Answer (List ℕ) → Mark

abbrev pub said : Mark → List (Answer (List ℕ))
said (mark s e) = s ∷ []
said (marks s e s' e') = s ∷ s' ∷ []

abbrev pub expected : Mark → List (Answer (List ℕ))
expected (mark s e) = e ∷ []
expected (marks s e s' e') = e ∷ e' ∷ []

unfoldable pub cases : List Mark
cases =
    mark (pkg (0x00 ∷ [])) (gives (0 ∷ 1 ∷ 1 ∷ []))
    ∷ marks (pkg (0x40 ∷ 0x04 ∷ replicate 62 0)) (gives (64 ∷ 0 ∷ 2 ∷ [])) (pkg (0x40 ∷ 0x04 ∷ replicate 61 0)) (refuses 2 0)
    ∷ mark (pkg (0x41 ∷ [])) (refuses 1 1)
    ∷ mark (name (0x5C ∷ 0x00 ∷ [])) (gives (2 ∷ 0x5C ∷ 0 ∷ 0 ∷ 0 ∷ []))
    ∷ mark (name (0x5E ∷ 0x00 ∷ [])) (gives (2 ∷ 0x5E ∷ 0 ∷ 0 ∷ 0 ∷ []))
    ∷ marks (name (0x00 ∷ [])) (refuses 7 0) (name (0x2F ∷ 0x00 ∷ [])) (refuses 7 0)
    ∷ mark (normalised (0x5C ∷ 0x5E ∷ 0x49 ∷ 0x53 ∷ 0x41 ∷ 0x5F ∷ [])) (refuses 10 0)
    ∷ mark (searched (0x58 ∷ []) (0x5C ∷ 0x41 ∷ 0x2E ∷ 0x42 ∷ 0x2E ∷ 0x43 ∷ []))
    (gives (1 ∷ 3 ∷ 0x5C ∷ 0 ∷ 0 ∷ 0 ∷ 0x41 ∷ 0x5F ∷ 0x5F ∷ 0x5F ∷ 0x58 ∷ 0x5F ∷ 0x5F ∷ 0x5F ∷ []))
    ∷ mark (run [] 0) (gives (0 ∷ 0 ∷ []))
    ∷ mark (run (0x70 ∷ 0x0A ∷ 0x03 ∷ 0x60 ∷ 0xA2 ∷ 0x04 ∷ 0x60 ∷ 0x76 ∷ 0x60 ∷ 0xA4 ∷ 0x60 ∷ []) 100) (gives (1 ∷ 0 ∷ 10 ∷ []))
    ∷ mark (run (0xA0 ∷ 0x04 ∷ 0x00 ∷ 0xA4 ∷ 0x01 ∷ 0xA1 ∷ 0x03 ∷ 0xA4 ∷ 0x00 ∷ []) 100) (gives (1 ∷ 0 ∷ 2 ∷ []))
    -- 01: 2 at 1
    ∷ mark (run (0xA0 ∷ 0x02 ∷ 0x0A ∷ 0x05 ∷ []) 100) (refuses 31 3)
    ∷ []

-- all that the definitions say, and all that the paper says
unfoldable pub all_said : List Mark → List (List (Answer (List ℕ)))
all_said [] = []
all_said (m ∷ ms) = said m ∷ all_said ms

unfoldable pub all_expected : List Mark → List (List (Answer (List ℕ)))
all_expected [] = []
all_expected (m ∷ ms) = expected m ∷ all_expected ms
