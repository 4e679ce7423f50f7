-- Reading and writing undo each other: `read-of-written`, `written-of-read`; the checksum is the only one that fits: `checksum-one`.
use mathlib.Core.Path.{◌≡◌, refl, sym, ◌∙◌, ap}
use mathlib.Core.Bool.{Bool, true, false, cond}
use mathlib.Core.List.{List, [], ◌∷◌, ◌++◌, append_assoc}
use Prim.Native.Nat.{ℕ, zero, suc, ◌+◌, ◌-◌, ◌^◌, ◌≤◌, ◌<◌}
use native.Mathlib.Omega.{arith}
use lib.Dec.{leb, lit<}
use lib.ListN.{length, get_or, take, drop, length-append, length-take, length-drop}
use lib.Seq.{take-add, drop-drop, drop-cons, take_at, drop_at, get_or-drop, length-take-le}
use borrow.Author.Tests.{leb-true, le-leb}
use Rattle.pkg_length.specs.Refusal.{Answer, gives, refuses}
use Rattle.pkg_length.specs.Little.{little, little_bytes}
use Rattle.pkg_length.proofs.Answers.{refuses-not, gives_same, then-gives}
use Rattle.pkg_length.proofs.Laws.{little-bytes, bytes-little, little-part}
use Rattle.header.specs.declared.Signature.{Signature}
use Rattle.header.specs.declared.Signature.TheVariants.{Dsdt, Ssdt}
use Rattle.header.specs.declared.Header.{Header}
use Rattle.header.specs.Header.{header_length, body_limit, sum_of, letters_of, signature_in, stated_length, header_in, body_of, Table, table_in, bytes_with, checksum_of, bytes_of, written_of, written}
use Rattle.header.proofs.Headers.{Good, header-gives, signature-is, signature-of-letters, header-signed, header-good}
use Rattle.header.proofs.Written.{bytes-of-long, sum-of-bytes, written-signed, checksum-one}

-- ## What was written is read

-- where the fields stand in a table's bytes
record Laid (bytes : List ℕ) (s : Signature) (n revision : ℕ) (more : List ℕ) : Type 0 where
  letters : take 4 bytes ≡ letters_of s
  spelt : take 4 (drop 4 bytes) ≡ little_bytes 4 n
  revised : get_or bytes 8 0 ≡ revision
  behind : drop 10 bytes ≡ more

laid : (s : Signature) (n revision c : ℕ) (more : List ℕ) → Laid (letters_of s ++ (little_bytes 4 n ++ (revision ∷ c ∷ more))) s n revision more
unfolding little_bytes
laid Dsdt n revision c more = record { letters = refl; spelt = refl; revised = refl; behind = refl }
laid Ssdt n revision c more = record { letters = refl; spelt = refl; revised = refl; behind = refl }

-- all that stands in a table is read again, whatever follows it
module _ (t : Table) (whole : length t.rest ≡ 26) (fits : length t.body ≤ body_limit) (more : List ℕ) where
  size : ℕ
  size = header_length + length t.body

  fields : Laid (bytes_of t ++ more) t.signature size t.revision (t.rest ++ (t.body ++ more))
  unfolding bytes_of bytes_with size
  fields = simp append_assoc (laid t.signature (header_length + length t.body) t.revision (checksum_of t) (t.rest ++ (t.body ++ more)))

  stated : size ≡ little (take 4 (drop 4 (bytes_of t ++ more)))
  unfolding size
  stated = sym (ap little fields.spelt ∙ little-bytes 4 size (omega arith))

  long : size ≤ length (bytes_of t ++ more)
  unfolding size
  long = rw (length-append, bytes-of-long t whole) (omega arith)

  sums : sum_of (take size (bytes_of t ++ more)) ≡ 0
  unfolding size
  sums = rw (take_at (bytes_of t) more size (bytes-of-long t whole)) (sum-of-bytes t)

  header-back : header_in (bytes_of t ++ more) ≡ gives (record { signature = t.signature; revision = t.revision; start = header_length; end = size })
  unfolding size
  header-back =
      let bytes = bytes_of t ++ more in
      let signed : gives t.signature ≡ signature_in (take 4 bytes) = sym (ap signature_in fields.letters ∙ signature-of-letters t.signature) in
      sym (ap (λ (r : ℕ). gives (record { signature = t.signature; revision = r; start = header_length; end = size })) (sym fields.revised)
      ∙ header-good bytes t.signature size stated (omega arith) long sums ∙ header-signed bytes (omega (arith, long)) signed)

  rest_back : take 26 (drop 10 (bytes_of t ++ more)) ≡ t.rest
  rest_back = ap (λ (xs : List ℕ). take 26 xs) fields.behind ∙ take_at t.rest (t.body ++ more) 26 whole

  body_back : take (size - header_length) (drop header_length (bytes_of t ++ more)) ≡ t.body
  unfolding size
  body_back =
      let count : size - header_length ≡ length t.body = omega arith in
      let far : drop header_length (bytes_of t ++ more) ≡ t.body ++ more =
      sym (drop-drop 26 10 (bytes_of t ++ more)) ∙ ap (λ (xs : List ℕ). drop 26 xs) fields.behind ∙ drop_at t.rest (t.body ++ more) 26 whole in
      rw (count, far) (take_at t.body more (length t.body) refl)

  pub table-back : table_in (bytes_of t ++ more) ≡ gives t
  unfolding table_in
  table-back =
      rw header-back (λ i. gives (record { signature = t.signature; revision = t.revision; rest = rest_back i; body = body_back i }))

-- for any letters, fields and room
module _ (room : ℕ) (letters : List ℕ) (revision : ℕ) (rest body : List ℕ) where
  -- a table of the fields given, with the letters' signature
  abbrev pub table_of : Signature → Table
  table_of s = record { signature = s; revision = revision; rest = rest; body = body }

  -- what the tests of a table that is written showed
  pub record Accepted (bytes : List ℕ) : Type 0 where
    pub signature : Signature
    pub letters-are : letters ≡ letters_of signature
    pub fits : length body ≤ body_limit
    pub roomy : header_length + length body ≤ room
    pub is : bytes_of (table_of signature) ≡ bytes

  pub written-gives : (bytes : List ℕ) → written room letters revision rest body ≡ gives bytes → Accepted bytes
  unfolding written written_of
  written-gives bytes e =
      let x = then-gives (signature_in letters) (λ s. written_of room (table_of s)) e in
      go x.0 x.1 (leb (length body) body_limit) (leb (header_length + length body) room) refl refl x.2
    where
      go : (s : Signature) → signature_in letters ≡ gives s → (a b : Bool) → leb (length body) body_limit ≡ a → leb (header_length + length body) room ≡ b →
          cond a (cond b (gives (bytes_of (table_of s))) (refuses 25 0)) (refuses 29 0) ≡ gives bytes → Accepted bytes
      go s l true true p q k = record { signature = s; letters-are = signature-is letters l; fits = leb-true _ _ p; roomy = leb-true _ _ q; is = gives_same k }
      go s l true false p q k = refuses-not k
      go s l false b p q k = refuses-not k

  -- reading what was written gives back signature, revision, the other 26 bytes and the body, whatever stands behind
  pub read-of-written : (bytes more : List ℕ) → length rest ≡ 26 → written room letters revision rest body ≡ gives bytes →
      (s : Signature) × (letters_of s ≡ letters) × (table_in (bytes ++ more) ≡ gives (table_of s))
  read-of-written bytes more whole e =
      let x = written-gives bytes e in
      (x.signature, sym x.letters-are, ap (λ (xs : List ℕ). table_in (xs ++ more)) (sym x.is) ∙ table-back (table_of x.signature) whole x.fits more)

-- ## What was read is written

-- bytes in front are bytes
take-bytes : (k : ℕ) (xs : List ℕ) → ((i : ℕ) → get_or xs i 0 < 256) → (i : ℕ) → get_or (take k xs) i 0 < 256
take-bytes zero xs h i = lit< tt
take-bytes (suc k) [] h i = lit< tt
take-bytes (suc k) (x ∷ xs) h zero = h 0
take-bytes (suc k) (x ∷ xs) h (suc i) = take-bytes k xs (λ j. h (suc j)) i

-- a table's bytes are its parts in a row
module _ (bytes : List ℕ) (n : ℕ) (low : header_length ≤ n) (high : n ≤ length bytes) where
  parts : take n bytes ≡ take 4 bytes ++ (take 4 (drop 4 bytes) ++ (get_or bytes 8 0 ∷ get_or bytes 9 0 ∷ (take 26 (drop 10 bytes) ++ take (n - header_length) (drop header_length bytes))))
  parts =
      let m = n - header_length in
      let all : n ≡ 4 + (4 + (2 + (26 + m))) = omega arith in
      let two : take 2 (drop 8 bytes) ≡ get_or bytes 8 0 ∷ get_or bytes 9 0 ∷ [] = rw (drop-cons bytes 8 0 (omega arith), drop-cons bytes 9 0 (omega arith)) in
      let a : take n bytes ≡ take 4 bytes ++ take (4 + (2 + (26 + m))) (drop 4 bytes) = ap (λ (k : ℕ). take k bytes) all ∙ take-add 4 (4 + (2 + (26 + m))) bytes in
      let b : take (4 + (2 + (26 + m))) (drop 4 bytes) ≡ take 4 (drop 4 bytes) ++ take (2 + (26 + m)) (drop 8 bytes) = take-add 4 (2 + (26 + m)) (drop 4 bytes) ∙ ap (λ (xs : List ℕ). take 4 (drop 4 bytes) ++ take (2 + (26 + m)) xs) (drop-drop 4 4 bytes) in
      let c : take (2 + (26 + m)) (drop 8 bytes) ≡ take 2 (drop 8 bytes) ++ take (26 + m) (drop 10 bytes) = take-add 2 (26 + m) (drop 8 bytes) ∙ ap (λ (xs : List ℕ). take 2 (drop 8 bytes) ++ take (26 + m) xs) (drop-drop 2 8 bytes) in
      let d : take (26 + m) (drop 10 bytes) ≡ take 26 (drop 10 bytes) ++ take m (drop header_length bytes) = take-add 26 m (drop 10 bytes) ∙ ap (λ (xs : List ℕ). take 26 (drop 10 bytes) ++ take m xs) (drop-drop 26 10 bytes) in
      a ∙ ap (λ (xs : List ℕ). take 4 bytes ++ xs) (b ∙ ap (λ (xs : List ℕ). take 4 (drop 4 bytes) ++ xs) (c ∙ rw (two, d)))

-- a table that was read, written again with its own fields, is the same bytes
module _ (bytes : List ℕ) (byte : (i : ℕ) → get_or bytes i 0 < 256) (t : Table) (e : table_in bytes ≡ gives t) where
  told : (h : Header) × (header_in bytes ≡ gives h) × (◌≡◌ {A = Answer Table} (gives (record { signature = h.signature; revision = h.revision; rest = take 26 (drop 10 bytes); body = body_of bytes (gives h) })) (gives t))
  unfolding table_in
  told = then-gives (header_in bytes) (λ h. gives (record { signature = h.signature; revision = h.revision; rest = take 26 (drop 10 bytes); body = body_of bytes (gives h) })) e

  good : Good bytes told.0
  good = header-gives bytes told.0 told.1

  n : ℕ
  n = stated_length bytes

  -- the fields, as they stand in the bytes
  seen : Table
  seen = record { signature = good.signature; revision = get_or bytes 8 0; rest = take 26 (drop 10 bytes); body = take (n - header_length) (drop header_length bytes) }

  seen-is : seen ≡ t
  unfolding seen n
  seen-is = ap (λ (h : Header). record { signature = h.signature; revision = h.revision; rest = take 26 (drop 10 bytes); body = take (h.end - h.start) (drop h.start bytes) }) good.is ∙ gives_same told.2

  seen-long : header_length + length seen.body ≡ n
  unfolding seen n
  seen-long = rw (length-take, length-drop) (omega (arith, good.low, good.high))

  small : n < 256 ^ 4
  unfolding n stated_length
  small = little-part 4 4 bytes byte

  -- the stated length is spelt by the bytes that state it
  spells : little_bytes 4 n ≡ take 4 (drop 4 bytes)
  unfolding n stated_length
  spells =
      let four : length (take 4 (drop 4 bytes)) ≡ 4 = length-take-le 4 (drop 4 bytes) (rw length-drop (omega (arith, good.whole))) in
      rw four at (bytes-little (take 4 (drop 4 bytes)) (take-bytes 4 (drop 4 bytes) (λ i. rw get_or-drop (byte (4 + i)))))

  as_bytes : take n bytes ≡ bytes_with (get_or bytes 9 0) seen
  unfolding bytes_with seen n
  as_bytes = parts bytes n good.low good.high ∙ rw (good.letters, seen-long, spells)

  same_bytes : bytes_of t ≡ take n bytes
  unfolding bytes_of n
  same_bytes =
      let zero-sum : sum_of (bytes_with (get_or bytes 9 0) seen) ≡ 0 = ap sum_of (sym as_bytes) ∙ good.sum in
      ap bytes_of (sym seen-is) ∙ ap (λ (c : ℕ). bytes_with c seen) (sym (checksum-one seen (get_or bytes 9 0) (byte 9) zero-sum)) ∙ sym as_bytes

  pub written-of-read : (room : ℕ) → stated_length bytes ≤ room →
      written room (letters_of t.signature) t.revision t.rest t.body ≡ gives (take (stated_length bytes) bytes)
  unfolding written_of n
  written-of-read room h =
      let size : header_length + length t.body ≡ n = ap (λ (x : Table). header_length + length x.body) (sym seen-is) ∙ seen-long in
      sym (written-signed room (letters_of t.signature) t.revision t.rest t.body (sym (signature-of-letters t.signature)))
      ∙ rw (le-leb (length t.body) body_limit (omega (arith, small)), le-leb (header_length + length t.body) room (omega arith)) (ap (λ (xs : List ℕ). gives xs) same_bytes)
