-- The parts of a table, put one behind another, then the checksum over the 0 in its place: the table's bytes.
use mathlib.Core.Path.{◌≡◌, refl, ◌∙◌, ap}
use mathlib.Core.List.{List, [], ◌∷◌, ◌++◌, append_assoc}
use Prim.Native.Nat.{ℕ, ◌+◌, ◌-◌, ◌%◌}
use native.Mathlib.Omega.{arith}
use lib.ListN.{length, take, drop, set, length-append}
use lib.Seq.{take_at}
use borrow.Rule.Slice.PartMut.{put_mid}
use Rattle.std.specs.Int.{w64, to_le_bytes}
use Rattle.pkg_length.specs.Refusal.{gives}
use Rattle.pkg_length.specs.Little.{little_bytes}
use Rattle.pkg_length.specs.Wrote.{wrote}
use Rattle.pkg_length.proofs.Laws.{bytes-long}
use Rattle.header.specs.Header.{header_length, sum_of, letters_of, Table, bytes_with, checksum_of, bytes_of}
use Rattle.header.proofs.Parts.{Stands, stands-more}
use Rattle.header.proofs.Written.{letters-long, with-long, bytes-of-long, stored}

module _ (t : Table) (whole : length t.rest ≡ 26) (out : List ℕ) where
  n : ℕ
  n = header_length + length t.body

  -- the parts in a row
  in_a_row : (letters_of t.signature ++ little_bytes 4 n ++ (t.revision ∷ 0 ∷ [])) ++ t.rest ++ t.body ≡ bytes_with 0 t
  unfolding bytes_with n
  in_a_row = simp append_assoc

  -- the lent bytes behind each part that is put
  abbrev pub row : List ℕ → List ℕ → List ℕ → List ℕ → List ℕ → List ℕ
  row y₁ y₂ y₃ y₄ y₅ = put_mid 36 (36 + length t.body - 36) (put_mid 10 26 (put_mid 8 2 (put_mid 4 4 (y₁ ++ drop 4 out) y₂) y₃) y₄) y₅

  module _ {y₁ y₂ y₃ y₄ y₅ : List ℕ} (e₁ : y₁ ≡ letters_of t.signature) (e₂ : y₂ ≡ little_bytes 4 (header_length + length t.body)) (e₃ : y₃ ≡ t.revision ∷ 0 ∷ []) (e₄ : y₄ ≡ t.rest) (e₅ : y₅ ≡ t.body) where
    stands : row y₁ y₂ y₃ y₄ y₅ ≡ bytes_with 0 t ++ drop n out
    unfolding n
    stands =
        let front = letters_of t.signature in
        let ds = little_bytes 4 n in
        let four : length front ≡ 4 = letters-long t.signature in
        let long : length ds ≡ 4 = bytes-long 4 n in
        let s₁ : Stands front (y₁ ++ drop 4 out) out = record { is = rw (e₁, four) } in
        let s₂ = stands-more ds 4 4 s₁ four long e₂ in
        let l₂ : length (front ++ ds) ≡ 8 = simp length-append (omega arith) in
        let s₃ = stands-more (t.revision ∷ 0 ∷ []) 8 2 s₂ l₂ refl e₃ in
        let l₃ : length (front ++ ds ++ (t.revision ∷ 0 ∷ [])) ≡ 10 = simp length-append (omega arith) in
        let s₄ = stands-more t.rest 10 26 s₃ l₃ whole e₄ in
        let l₄ : length (front ++ ds ++ (t.revision ∷ 0 ∷ []) ++ t.rest) ≡ 36 = simp length-append (omega arith) in
        let k : length t.body ≡ 36 + length t.body - 36 = omega arith in
        let s₅ = stands-more t.body 36 (36 + length t.body - 36) s₄ l₄ k e₅ in
        rw (in_a_row, with-long t 0 whole) at s₅.is

    pub filled : {c : ℕ} → c ≡ (256 - sum_of (take (header_length + length t.body) (row y₁ y₂ y₃ y₄ y₅))) % 256 →
        record { out = set (row y₁ y₂ y₃ y₄ y₅) 9 c; said = gives (header_length + length t.body) } ≡ wrote out (gives (bytes_of t))
    unfolding n checksum_of bytes_of
    filled {c} e =
        let front : take n (row y₁ y₂ y₃ y₄ y₅) ≡ bytes_with 0 t = ap (λ (xs : List ℕ). take n xs) stands ∙ take_at (bytes_with 0 t) (drop n out) n (with-long t 0 whole) in
        let check : c ≡ checksum_of t = e ∙ ap (λ (xs : List ℕ). (256 - sum_of xs) % 256) front in
        let store : set (row y₁ y₂ y₃ y₄ y₅) 9 c ≡ bytes_of t ++ drop n out = ap (λ (xs : List ℕ). set xs 9 c) stands ∙ stored t c (drop n out) ∙ ap (λ (k : ℕ). bytes_with k t ++ drop n out) check in
        rw (bytes-of-long t whole) (λ i. record { out = store i; said = gives n })

-- the four low bytes of a number in eight
pub low-four : (n : ℕ) → take 4 (to_le_bytes w64 n) ≡ little_bytes 4 n
unfolding little_bytes
low-four n = grind arith
