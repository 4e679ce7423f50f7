-- The calls on a whole table: its header, and the body behind it.
use Rattle.std.specs.Prelude.{ℕ, ◌&&◌, List, [], ◌∷◌, length}
use Rattle.pkg_length.specs.Wrote.{wrote}
use Rattle.header.specs.Header.{header_in, written}
use Rattle.header.specs.declared.Signature.{Signature}
use Rattle.header.specs.declared.Signature.TheVariants.{Dsdt, Ssdt}
use Rattle.header.specs.declared.Header.{Header}
use Rattle.klem_c.specs.Result.{result_words, letters, valued, sized, After, answers}
use Rattle.klem_c.specs.Paths.{texts}

-- KLEM_HEADER_REST: the header's bytes from 10 on
abbrev pub rest_length : ℕ
rest_length = 26

-- 0 DSDT, 1 SSDT
abbrev pub signature_number : Signature → ℕ
signature_number Dsdt = 0
signature_number Ssdt = 1

-- signature, revision, where the body ends; it starts at KLEM_HEADER
abbrev pub header_words : Header → List ℕ
header_words h = signature_number h.signature ∷ h.revision ∷ h.end ∷ []

abbrev pub klem_header_read_after : List ℕ → List ℕ → After
klem_header_read_after table result = answers (sized result_words result) result (valued header_words (header_in table))

-- header and body go to the start of `out`, and the value is how many bytes they are
abbrev pub klem_header_write_after : List ℕ → ℕ → List ℕ → List ℕ → List ℕ → List ℕ → After
klem_header_write_after signature revision rest body out result =
    texts (sized result_words result && (sized letters signature && sized rest_length rest)) result out
    (wrote out (written (length out) signature revision rest body))
