-- The calls on an image: a table saved and read back.
use Rattle.std.specs.Prelude.{ℕ, List, [], ◌∷◌, length}
use Rattle.pkg_length.specs.Wrote.{wrote}
use Rattle.table.specs.Limits.{limits}
use Rattle.image.specs.Format.{first_edition}
use Rattle.image.specs.Calls.{write_call, read_call}
use Rattle.image.specs.declared.Counts.{Counts}
use Rattle.klem_c.specs.Result.{result_words, sized, After}
use Rattle.klem_c.specs.Paths.{texts}
use Rattle.klem_c.specs.Tables.{edits}

-- the image goes to the start of `out`, and the value is how many bytes it is
abbrev pub klem_image_write_after : List ℕ → List ℕ → List ℕ → After
klem_image_write_after table out result = texts (sized result_words result) result out (wrote out (write_call first_edition limits (length out) table))

-- levels without the root, bindings, objects
abbrev pub counts_words : Counts → List ℕ
counts_words c = c.levels ∷ c.bindings ∷ c.objects ∷ []

abbrev pub klem_image_read_after : List ℕ → List ℕ → List ℕ → After
klem_image_read_after bytes table result = edits (sized result_words result) result table counts_words (read_call first_edition limits bytes table)
