-- The calls on a table. The length of a table is no fixed slice's: the layer below refuses it by 24.
use Rattle.std.specs.Prelude.{ℕ, Bool, cond, List, [], ◌∷◌, leb}
use Rattle.pkg_length.specs.Refusal.{Answer, refuses}
use Rattle.table.specs.Limits.{limits}
use Rattle.table.specs.Memory.{Edited, Left, left}
use Rattle.table.specs.Search.{Hit}
use Rattle.namespace.specs.Calls.{new_call, add_level_call, remove_level_call, add_value_call, add_value_resolved_call, add_alias_call, get_call, set_call, get_handle_call, get_by_path_call, set_by_path_call}
use Rattle.namespace.specs.Levels.{type_of_level}
use Rattle.namespace.specs.Search.{search_call, level_call}
use Rattle.namespace.specs.declared.LevelType.{LevelType}
use Rattle.klem_c.specs.Result.{bad_type, result_words, result_of, valued, nothing, one, sized, After, leaves, answers}
use Rattle.klem_c.specs.Paths.{path_at, fits_path, fits_two, fits_three, names}

-- a call with a level's type
abbrev pub typed : {A : Type 0} → ℕ → (LevelType → Answer A) → Answer A
typed n call = cond (leb n 5) (call (type_of_level n)) (refuses bad_type 0)

-- what is left of the table and what is said of it
abbrev pub lefts : {A : Type 0} → Bool → List ℕ → List ℕ → (A → List ℕ) → Left A → After
lefts fit result table f l = leaves fit result table (result_of (valued f l.said)) l.words

-- a call that is lent the table
abbrev pub edits : {A : Type 0} → Bool → List ℕ → List ℕ → (A → List ℕ) → Answer (Edited A) → After
edits fit result table f a = lefts fit result table f (left limits table a)

abbrev pub klem_table_new_after : List ℕ → List ℕ → After
klem_table_new_after table result = edits (sized result_words result) result table nothing (new_call limits table)

abbrev pub klem_add_level_after : List ℕ → List ℕ → ℕ → List ℕ → After
klem_add_level_after table path typ result = edits (fits_path result path) result table nothing (typed typ (λ t. add_level_call limits table (path_at path) t))

abbrev pub klem_remove_level_after : List ℕ → List ℕ → List ℕ → After
klem_remove_level_after table path result = edits (fits_path result path) result table nothing (remove_level_call limits table (path_at path))

abbrev pub klem_add_value_after : List ℕ → List ℕ → ℕ → List ℕ → After
klem_add_value_after table path value result = edits (fits_path result path) result table one (add_value_call limits table (path_at path) value)

abbrev pub klem_add_value_at_resolved_path_after : List ℕ → List ℕ → List ℕ → ℕ → List ℕ → After
klem_add_value_at_resolved_path_after table path scope value result =
    edits (fits_two result path scope) result table one (add_value_resolved_call limits table (path_at path) (path_at scope) value)

abbrev pub klem_add_alias_at_resolved_path_after : List ℕ → List ℕ → List ℕ → List ℕ → List ℕ → After
klem_add_alias_at_resolved_path_after table path scope target result =
    edits (fits_three result path scope target) result table one (add_alias_call limits table (path_at path) (path_at scope) (path_at target))

abbrev pub klem_get_after : List ℕ → ℕ → List ℕ → After
klem_get_after table handle result = answers (sized result_words result) result (valued one (get_call limits table handle))

abbrev pub klem_set_after : List ℕ → ℕ → ℕ → List ℕ → After
klem_set_after table handle value result = edits (sized result_words result) result table nothing (set_call limits table handle value)

abbrev pub klem_get_handle_after : List ℕ → List ℕ → List ℕ → After
klem_get_handle_after table path result = answers (fits_path result path) result (valued one (get_handle_call limits table (path_at path)))

abbrev pub klem_get_by_path_after : List ℕ → List ℕ → List ℕ → After
klem_get_by_path_after table path result = answers (fits_path result path) result (valued one (get_by_path_call limits table (path_at path)))

abbrev pub klem_set_by_path_after : List ℕ → List ℕ → ℕ → List ℕ → After
klem_set_by_path_after table path value result = edits (fits_path result path) result table nothing (set_by_path_call limits table (path_at path) value)

-- the handle, the scopes asked
abbrev pub hit_words : Hit → List ℕ
hit_words h = h.handle ∷ h.asked ∷ []

abbrev pub klem_search_after : List ℕ → List ℕ → List ℕ → List ℕ → List ℕ → After
klem_search_after table path scope out result = names (fits_three result out path scope) result out hit_words (search_call limits table (path_at path) (path_at scope))

abbrev pub klem_search_for_level_after : List ℕ → List ℕ → List ℕ → List ℕ → List ℕ → After
klem_search_for_level_after table path scope out result = names (fits_three result out path scope) result out one (level_call limits table (path_at path) (path_at scope))
