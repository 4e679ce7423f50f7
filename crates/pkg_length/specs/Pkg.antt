-- Package lengths, as document 01 has them.
use Rattle.std.specs.Prelude.{cond, ℕ, suc, ◌+◌, ◌-◌, ◌*◌, ◌/◌, ◌%◌, List, [], ◌∷◌, leb, eqb, length, take}
use Rattle.pkg_length.specs.declared.PkgLength.{PkgLength}
use Rattle.pkg_length.specs.declared.Raw.{Raw}
use Rattle.pkg_length.specs.declared.Pkg.{Pkg}
use Rattle.pkg_length.specs.Refusal.{Answer, gives, refuses, and_then, passes_part, block_limit}
use Rattle.pkg_length.specs.Little.{little}

-- bits 7-6 of the lead byte count the extra bytes. None: bits 5-0 are the raw length. Else its low four bits start it, and extra byte i adds
-- byte times 2 ^ (4 + 8 i): 16 times what the extra bytes spell. 1 at the end, where a byte is wanted past it
unfoldable pub spelt : List ℕ → Answer Raw
spelt [] = refuses 1 0
spelt (lead ∷ rest) =
    cond (eqb (lead / 64) 0)
    (gives (record { raw = lead % 64; used = 1 }))
    (cond (leb (lead / 64) (length rest))
    (gives (record { raw = lead % 16 + 16 * little (take (lead / 64) rest); used = 1 + lead / 64 }))
    (refuses 1 (suc (length rest))))

-- the bare reader: the limit first
unfoldable pub raw_length_answer : List ℕ → Answer Raw
raw_length_answer bytes = cond (leb (length bytes) block_limit) (spelt bytes) (refuses 5 0)

-- a raw length in n bytes: the end offset is n minus it, 2 if negative
unfoldable pub from_raw : ℕ → ℕ → Answer PkgLength
from_raw n raw = cond (leb raw n) (gives (record { raw_length = raw; end_offset = n - raw })) (passes_part 0)

-- read, then fitted to the whole input
unfoldable pub pkg_length_answer : List ℕ → Answer Pkg
pkg_length_answer bytes =
    and_then (raw_length_answer bytes) (λ a.
    and_then (from_raw (length bytes) a.raw) (λ l.
    gives (record { length_read = l; used = a.used })))
