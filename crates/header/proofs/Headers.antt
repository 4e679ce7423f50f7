-- What the definition of a header answers at each of its tests, one law for each return of the code; and what a header that is given came from.
use mathlib.Core.Path.{◌≡◌, refl, sym, ◌∙◌, ap}
use mathlib.Core.Bool.{Bool, true, false, cond}
use mathlib.Core.List.{List}
use Prim.Native.Nat.{ℕ, ◌≤◌, ◌<◌}
use native.Mathlib.Omega.{arith}
use lib.Dec.{leb, eqb}
use lib.ListN.{length, get_or, take, drop}
use borrow.Author.Tests.{eq-eqb, ne_eqb, le-leb, lt-leb, leb-true, eqb-true}
use Rattle.pkg_length.specs.Refusal.{gives, refuses, and_then}
use Rattle.pkg_length.specs.Little.{little}
use Rattle.pkg_length.proofs.Answers.{refuses-not, gives_same, then-gives}
use Rattle.header.specs.declared.Signature.{Signature}
use Rattle.header.specs.declared.Signature.TheVariants.{Dsdt, Ssdt}
use Rattle.header.specs.declared.Header.{Header}
use Rattle.header.specs.Header.{header_length, sum_of, letters_of, bytes_same, signature_in, stated_length, header_of, header_in}
use Rattle.header.proofs.Parts.{same-is}

module _ (letters : List ℕ) where
  pub signed-dsdt : bytes_same letters (letters_of Dsdt) ≡ true → gives Dsdt ≡ signature_in letters
  unfolding signature_in
  signed-dsdt h = rw h

  pub signed-ssdt : bytes_same letters (letters_of Dsdt) ≡ false → bytes_same letters (letters_of Ssdt) ≡ true → gives Ssdt ≡ signature_in letters
  unfolding signature_in
  signed-ssdt g h = rw (g, h)

  pub unsigned : bytes_same letters (letters_of Dsdt) ≡ false → bytes_same letters (letters_of Ssdt) ≡ false → refuses 28 0 ≡ signature_in letters
  unfolding signature_in
  unsigned g h = rw (g, h)

  -- a signature that is given is the letters
  pub signature-is : {s : Signature} → signature_in letters ≡ gives s → letters ≡ letters_of s
  unfolding signature_in
  signature-is {s} e = go (bytes_same letters (letters_of Dsdt)) (bytes_same letters (letters_of Ssdt)) refl refl e
    where
      go : (a b : Bool) → bytes_same letters (letters_of Dsdt) ≡ a → bytes_same letters (letters_of Ssdt) ≡ b →
          cond a (gives Dsdt) (cond b (gives Ssdt) (refuses 28 0)) ≡ gives s → letters ≡ letters_of s
      go true b p q h = same-is letters (letters_of Dsdt) p ∙ ap letters_of (gives_same h)
      go false true p q h = same-is letters (letters_of Ssdt) q ∙ ap letters_of (gives_same h)
      go false false p q h = refuses-not h

pub signature-of-letters : (s : Signature) → signature_in (letters_of s) ≡ gives s
unfolding signature_in bytes_same
signature-of-letters Dsdt = refl
signature-of-letters Ssdt = refl

module _ (bytes : List ℕ) where
  pub header-short : length bytes < header_length → refuses 27 0 ≡ header_in bytes
  unfolding header_in
  header-short h = rw (lt-leb _ _ h)

  pub header-unsigned : {n p : ℕ} → header_length ≤ length bytes → refuses n p ≡ signature_in (take 4 bytes) → refuses n p ≡ header_in bytes
  unfolding header_in
  header-unsigned h e = rw (le-leb _ _ h, ← e)

  pub header-signed : {s : Signature} → header_length ≤ length bytes → gives s ≡ signature_in (take 4 bytes) → header_of s bytes ≡ header_in bytes
  unfolding header_in
  header-signed h e = rw (le-leb _ _ h, ← e)

  -- the length, as the code reads it
  module _ (s : Signature) (end : ℕ) (e : end ≡ little (take 4 (drop 4 bytes))) where
    pub length-low : end < header_length → refuses 29 0 ≡ header_of s bytes
    unfolding header_of stated_length
    length-low h = rw (← e, lt-leb _ _ h)

    pub length_high : header_length ≤ end → length bytes < end → refuses 29 0 ≡ header_of s bytes
    unfolding header_of stated_length
    length_high h k = rw (← e, le-leb _ _ h, lt-leb _ _ k)

    pub sum-wrong : header_length ≤ end → end ≤ length bytes → (sum_of (take end bytes) ≡ 0 → ⊥) → refuses 30 0 ≡ header_of s bytes
    unfolding header_of stated_length
    sum-wrong h k z = rw (← e, le-leb _ _ h, le-leb _ _ k, ne_eqb _ _ z)

    pub header-good : header_length ≤ end → end ≤ length bytes → sum_of (take end bytes) ≡ 0 →
        gives (record { signature = s; revision = get_or bytes 8 0; start = header_length; end = end }) ≡ header_of s bytes
    unfolding header_of stated_length
    header-good h k z = rw (← e, le-leb _ _ h, le-leb _ _ k, eq-eqb _ _ z)

-- a header that is given: what its tests showed
pub record Good (bytes : List ℕ) (h : Header) : Type 0 where
  pub signature : Signature
  pub letters : take 4 bytes ≡ letters_of signature
  pub whole : header_length ≤ length bytes
  pub low : header_length ≤ stated_length bytes
  pub high : stated_length bytes ≤ length bytes
  pub sum : sum_of (take (stated_length bytes) bytes) ≡ 0
  pub is : record { signature = signature; revision = get_or bytes 8 0; start = header_length; end = stated_length bytes } ≡ h

pub header-gives : (bytes : List ℕ) (h : Header) → header_in bytes ≡ gives h → Good bytes h
unfolding header_in header_of
header-gives bytes h e = go (leb header_length (length bytes)) refl e
  where
    n : ℕ
    n = stated_length bytes

    tests : (s : Signature) → take 4 bytes ≡ letters_of s → header_length ≤ length bytes → (a b c : Bool) → leb header_length n ≡ a → leb n (length bytes) ≡ b →
        eqb (sum_of (take n bytes)) 0 ≡ c →
        cond a (cond b (cond c (gives (record { signature = s; revision = get_or bytes 8 0; start = header_length; end = n })) (refuses 30 0)) (refuses 29 0)) (refuses 29 0) ≡ gives h →
        Good bytes h
    tests s l w true true true p q r k =
        record { signature = s; letters = l; whole = w; low = leb-true _ _ p; high = leb-true _ _ q; sum = eqb-true _ _ r; is = gives_same k }
    tests s l w true true false p q r k = refuses-not k
    tests s l w true false c p q r k = refuses-not k
    tests s l w false b c p q r k = refuses-not k

    go : (t : Bool) → leb header_length (length bytes) ≡ t → cond t (and_then (signature_in (take 4 bytes)) (λ s. header_of s bytes)) (refuses 27 0) ≡ gives h → Good bytes h
    go true p k =
        let x = then-gives (signature_in (take 4 bytes)) (λ s. header_of s bytes) k in
        tests x.0 (signature-is (take 4 bytes) x.1) (leb-true _ _ p) (leb header_length n) (leb n (length bytes)) (eqb (sum_of (take n bytes)) 0) refl refl refl x.2
    go false p k = refuses-not k

-- the part that the header of bytes tells is inside them
pub body-inside : (bytes : List ℕ) (h : Header) → gives h ≡ header_in bytes → (h.start ≤ h.end) × (h.end ≤ length bytes)
body-inside bytes h e =
    let g = header-gives bytes h (sym e) in
    let start : header_length ≡ h.start = ap (λ (x : Header). x.start) g.is in
    let end : stated_length bytes ≡ h.end = ap (λ (x : Header). x.end) g.is in
    (omega (arith, g.low), omega (arith, g.high))
