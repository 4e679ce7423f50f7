-- A table's bytes: how long they are, what its checksum does to their sum, and what the definition of writing answers at each of its tests.
use mathlib.Core.Path.{◌≡◌, refl, sym, ◌∙◌, ap}
use mathlib.Core.List.{List, ◌∷◌, ◌++◌, append_assoc}
use Prim.Native.Nat.{ℕ, ◌+◌, ◌%◌, ◌-◌, ◌≤◌, ◌<◌}
use native.Mathlib.Omega.{arith}
use lib.ListN.{length, set, length-append}
use borrow.Author.Tests.{le-leb, lt-leb}
use Rattle.pkg_length.specs.Refusal.{gives, refuses}
use Rattle.pkg_length.specs.Little.{little_bytes}
use Rattle.pkg_length.specs.Wrote.{wrote}
use Rattle.pkg_length.proofs.Laws.{bytes-long}
use Rattle.header.specs.declared.Signature.{Signature}
use Rattle.header.specs.declared.Signature.TheVariants.{Dsdt, Ssdt}
use Rattle.header.specs.Header.{header_length, body_limit, total, sum_of, letters_of, signature_in, Table, bytes_with, checksum_of, bytes_of, written_of, written}
use Rattle.header.proofs.Sums.{total-cons, total-append, checksum-fits, checksum-only}

pub letters-long : (s : Signature) → length (letters_of s) ≡ 4
letters-long Dsdt = refl
letters-long Ssdt = refl

-- the checksum's place
set-ninth : (s : Signature) (n revision c : ℕ) (more : List ℕ) →
    set (letters_of s ++ (little_bytes 4 n ++ (revision ∷ 0 ∷ more))) 9 c ≡ letters_of s ++ (little_bytes 4 n ++ (revision ∷ c ∷ more))
unfolding little_bytes
set-ninth Dsdt n revision c more = refl
set-ninth Ssdt n revision c more = refl

module _ (t : Table) where
  pub with-long : (c : ℕ) → length t.rest ≡ 26 → length (bytes_with c t) ≡ header_length + length t.body
  unfolding bytes_with
  with-long c e =
      simp length-append (omega (arith, letters-long t.signature, bytes-long 4 (header_length + length t.body), length-append t.rest t.body))

  pub bytes-of-long : length t.rest ≡ 26 → length (bytes_of t) ≡ header_length + length t.body
  unfolding bytes_of
  bytes-of-long e = with-long (checksum_of t) e

  -- the checksum counts once in the sum
  total-with : (c : ℕ) → total (bytes_with c t) ≡ total (bytes_with 0 t) + c
  unfolding bytes_with
  total-with c = simp (total-append, total-cons) (omega arith)

  -- the bytes written sum to 0
  pub sum-of-bytes : sum_of (bytes_of t) ≡ 0
  unfolding bytes_of checksum_of
  sum-of-bytes = ap (λ (n : ℕ). n % 256) (total-with ((256 - sum_of (bytes_with 0 t)) % 256)) ∙ checksum-fits (total (bytes_with 0 t))

  -- and no other checksum does that
  pub checksum-one : (c : ℕ) → c < 256 → sum_of (bytes_with c t) ≡ 0 → c ≡ checksum_of t
  unfolding checksum_of
  checksum-one c h e = checksum-only (total (bytes_with 0 t)) c h (sym (ap (λ (n : ℕ). n % 256) (total-with c)) ∙ e)

  -- the checksum, stored over a 0
  pub stored : (c : ℕ) (more : List ℕ) → set (bytes_with 0 t ++ more) 9 c ≡ bytes_with c t ++ more
  unfolding bytes_with
  stored c more = simp append_assoc (set-ninth t.signature (header_length + length t.body) t.revision c (t.rest ++ (t.body ++ more)))

  -- what is written into lent bytes
  module _ (out : List ℕ) where
    pub write-long : body_limit < length t.body → record { out = out; said = refuses 29 0 } ≡ wrote out (written_of (length out) t)
    unfolding written_of
    write-long h = rw (lt-leb _ _ h)

    pub write-over : length t.body ≤ body_limit → length out < header_length + length t.body → record { out = out; said = refuses 25 0 } ≡ wrote out (written_of (length out) t)
    unfolding written_of
    write-over h k = rw (le-leb _ _ h, lt-leb _ _ k)

    pub write-fit : length t.body ≤ body_limit → header_length + length t.body ≤ length out → wrote out (gives (bytes_of t)) ≡ wrote out (written_of (length out) t)
    unfolding written_of
    write-fit h k = rw (le-leb _ _ h, le-leb _ _ k)

-- the signature first
module _ (room : ℕ) (letters : List ℕ) (revision : ℕ) (rest body : List ℕ) where
  pub written-unsigned : {n p : ℕ} → refuses n p ≡ signature_in letters → refuses n p ≡ written room letters revision rest body
  unfolding written
  written-unsigned e = rw (← e)

  pub written-signed : {s : Signature} → gives s ≡ signature_in letters →
      written_of room (record { signature = s; revision = revision; rest = rest; body = body }) ≡ written room letters revision rest body
  unfolding written
  written-signed e = rw (← e)
