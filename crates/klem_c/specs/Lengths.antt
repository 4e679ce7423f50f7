-- The calls on package lengths.
use Rattle.std.specs.Prelude.{ℕ, List, [], ◌∷◌, length}
use Rattle.pkg_length.specs.Pkg.{raw_length_answer, from_raw, pkg_length_answer}
use Rattle.pkg_length.specs.declared.Raw.{Raw}
use Rattle.pkg_length.specs.declared.Pkg.{Pkg}
use Rattle.pkg_length.specs.declared.PkgLength.{PkgLength}
use Rattle.klem_c.specs.Result.{result_words, valued, sized, After, answers}

-- raw length, bytes used
abbrev pub raw_words : Raw → List ℕ
raw_words v = v.raw ∷ v.used ∷ []

-- raw length, end offset
abbrev pub length_words : PkgLength → List ℕ
length_words v = v.raw_length ∷ v.end_offset ∷ []

-- raw length, end offset, bytes used
abbrev pub pkg_words : Pkg → List ℕ
pkg_words v = v.length_read.raw_length ∷ v.length_read.end_offset ∷ v.used ∷ []

abbrev pub klem_pkg_length_after : List ℕ → List ℕ → After
klem_pkg_length_after input result = answers (sized result_words result) result (valued pkg_words (pkg_length_answer input))

abbrev pub klem_raw_pkg_length_after : List ℕ → List ℕ → After
klem_raw_pkg_length_after input result = answers (sized result_words result) result (valued raw_words (raw_length_answer input))

abbrev pub klem_from_raw_length_after : List ℕ → ℕ → List ℕ → After
klem_from_raw_length_after stream raw result = answers (sized result_words result) result (valued length_words (from_raw (length stream) raw))
