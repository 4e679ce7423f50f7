-- A whole table, as request R-1 of document 02 has it: a header of 36 bytes, then the body.
use Rattle.std.specs.Prelude.{Bool, true, false, cond, ℕ, ◌+◌, ◌-◌, ◌%◌, List, [], ◌∷◌, ◌++◌, leb, eqb, length, get_or, take, drop}
use Rattle.pkg_length.specs.Refusal.{Answer, gives, refuses, and_then}
use Rattle.pkg_length.specs.Little.{little, little_bytes}
use Rattle.header.specs.declared.Signature.{Signature}
use Rattle.header.specs.declared.Signature.TheVariants.{Dsdt, Ssdt}
use Rattle.header.specs.declared.Header.{Header}

-- the header's bytes
abbrev pub header_length : ℕ
header_length = 36

-- the longest body whose table has a length of four bytes: 2 ^ 32 - 37
abbrev pub body_limit : ℕ
body_limit = 4294967259

-- bytes added up
unfoldable pub total : List ℕ → ℕ
total [] = 0
total (b ∷ bs) = b + total bs

-- their sum, modulo 256
abbrev pub sum_of : List ℕ → ℕ
sum_of bs = total bs % 256

-- the signature's four letters
abbrev pub letters_of : Signature → List ℕ
letters_of Dsdt = 0x44 ∷ 0x53 ∷ 0x44 ∷ 0x54 ∷ []
letters_of Ssdt = 0x53 ∷ 0x53 ∷ 0x44 ∷ 0x54 ∷ []

-- whether bytes are these
unfoldable pub bytes_same : List ℕ → List ℕ → Bool
bytes_same [] [] = true
bytes_same [] (y ∷ ys) = false
bytes_same (x ∷ xs) [] = false
bytes_same (x ∷ xs) (y ∷ ys) = cond (eqb x y) (bytes_same xs ys) false

-- DSDT or SSDT, nothing else
unfoldable pub signature_in : List ℕ → Answer Signature
signature_in letters =
    cond (bytes_same letters (letters_of Dsdt)) (gives Dsdt)
    (cond (bytes_same letters (letters_of Ssdt)) (gives Ssdt)
    (refuses 28 0))

-- the stated length: four bytes from byte 4 on, low first
unfoldable pub stated_length : List ℕ → ℕ
stated_length bytes = little (take 4 (drop 4 bytes))

-- behind the signature: the stated length is at least 36 and no more than the bytes given, then the bytes of that length sum to 0
unfoldable pub header_of : Signature → List ℕ → Answer Header
header_of s bytes =
    cond (leb header_length (stated_length bytes))
    (cond (leb (stated_length bytes) (length bytes))
    (cond (eqb (sum_of (take (stated_length bytes) bytes)) 0)
    (gives (record { signature = s; revision = get_or bytes 8 0; start = header_length; end = stated_length bytes }))
    (refuses 30 0))
    (refuses 29 0))
    (refuses 29 0)

-- reading: short input first, then the signature
unfoldable pub header_in : List ℕ → Answer Header
header_in bytes = cond (leb header_length (length bytes)) (and_then (signature_in (take 4 bytes)) (λ s. header_of s bytes)) (refuses 27 0)

-- the body that a header tells of, none where it is refused
abbrev pub body_of : List ℕ → Answer Header → List ℕ
body_of bytes (gives h) = take (h.end - h.start) (drop h.start bytes)
body_of bytes (refuses n p) = []

-- a table: what its header says beside length and checksum, and its body
pub record Table : Type 0 where
  pub signature : Signature
  pub revision : ℕ
  -- bytes 10 to 35
  pub rest : List ℕ
  pub body : List ℕ

-- all that is read of a table
unfoldable pub table_in : List ℕ → Answer Table
table_in bytes =
    and_then (header_in bytes) (λ h.
    gives (record { signature = h.signature; revision = h.revision; rest = take 26 (drop 10 bytes); body = body_of bytes (gives h) }))

-- a table's bytes, whatever the checksum
unfoldable pub bytes_with : ℕ → Table → List ℕ
bytes_with checksum t =
    letters_of t.signature ++ (little_bytes 4 (header_length + length t.body) ++ (t.revision ∷ checksum ∷ (t.rest ++ t.body)))

-- the checksum: with it all bytes sum to 0
unfoldable pub checksum_of : Table → ℕ
checksum_of t = (256 - sum_of (bytes_with 0 t)) % 256

unfoldable pub bytes_of : Table → List ℕ
bytes_of t = bytes_with (checksum_of t) t

-- writing, into so much room: a body that is too long, then 25
unfoldable pub written_of : ℕ → Table → Answer (List ℕ)
written_of room t =
    cond (leb (length t.body) body_limit)
    (cond (leb (header_length + length t.body) room) (gives (bytes_of t)) (refuses 25 0))
    (refuses 29 0)

-- the signature first
unfoldable pub written : ℕ → List ℕ → ℕ → List ℕ → List ℕ → Answer (List ℕ)
written room letters revision rest body =
    and_then (signature_in letters) (λ s. written_of room (record { signature = s; revision = revision; rest = rest; body = body }))
