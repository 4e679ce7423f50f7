-- Packages: a length that counts its own bytes, and contents. What they are, and how one is read.
use Rattle.std.specs.Prelude.{◌≡◌, cond, List, [], ◌∷◌, ◌++◌, ℕ, ◌+◌, ◌*◌, ◌<◌, leb, length}
use Rattle.pkg_length.specs.Refusal.{Answer, gives, and_then, ends_early}
use Rattle.pkg_length.specs.Little.{little}
use Rattle.pkg_length.specs.declared.Raw.{Raw}
use Rattle.pkg_length.specs.Pkg.{spelt, from_raw}

-- which bytes spell a raw length: bits 7-6 of the lead byte count the extra bytes (as it is a byte, at most 3), and bits 5-4 are ignored where there are any
pub data Spells : ℕ → List ℕ → Type 0 where
  spelt_plain : {n : ℕ} → n < 64 → Spells n (n ∷ [])
  spelt_extra : {low ignored : ℕ} {xs : List ℕ} → 0 < length xs → low < 16 → ignored < 4 →
      Spells (low + 16 * little xs) ((64 * length xs + (16 * ignored + low)) ∷ xs)

-- a package of some contents: its length counts its own bytes
pub data Package : List ℕ → List ℕ → Type 0 where
  d_package : {n : ℕ} {h c : List ℕ} → Spells n h → n ≡ length h + length c → Package c (h ++ c)

-- a package's length at the start of a part: read, then its fit: its own bytes held, and the part not passed
unfoldable pub package_in : List ℕ → Answer Raw
package_in s =
    and_then (spelt s) (λ w.
    cond (leb w.used w.raw)
    (and_then (from_raw (length s) w.raw) (λ l. gives w))
    (ends_early 0))
