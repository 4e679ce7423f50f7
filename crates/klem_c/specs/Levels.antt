-- The list of levels, a word for each.
use Rattle.std.specs.Prelude.{List, map, ℕ, ◌+◌, ◌*◌, ◌^◌, length, get_or}
use Rattle.pkg_length.specs.Refusal.{Answer, gives, and_then}
use Rattle.pkg_length.specs.Wrote.{wrote}
use Rattle.table.specs.Limits.{limits}
use Rattle.namespace.specs.Calls.{number_of_type}
use Rattle.namespace.specs.Levels.{levels_call}
use Rattle.namespace.specs.declared.LevelRecord.{LevelRecord}
use Rattle.klem_c.specs.Result.{After}
use Rattle.klem_c.specs.Paths.{path_at, fits_path, texts}

-- four bytes, the first one lowest
abbrev pub number_of_four : ℕ → ℕ → ℕ → ℕ → ℕ
number_of_four a b c d = a + b * 2 ^ 8 + c * 2 ^ 16 + d * 2 ^ 24

-- KLEM_LEVEL_..: a level's depth from bit 40 on, its type in bits 39-32, its segment's four bytes below
abbrev pub packed_level : LevelRecord → ℕ
packed_level r = r.depth * 2 ^ 40 + number_of_type r.typ * 2 ^ 32 + number_of_four (get_or r.segment 0 0) (get_or r.segment 1 0) (get_or r.segment 2 0) (get_or r.segment 3 0)

-- the words of the levels that a call lists
abbrev pub packed_levels : Answer (List LevelRecord) → Answer (List ℕ)
packed_levels a = and_then a (λ rs. gives (map packed_level rs))

abbrev pub klem_levels_after : List ℕ → List ℕ → List ℕ → List ℕ → After
klem_levels_after table path list result =
    texts (fits_path result path) result list
    (wrote list (packed_levels (levels_call limits table (path_at path) (length list))))
