-- What request R-6 asks of the image, under plain names: its length, that an image that is read is exactly what the writer writes of its tree,
-- and that what was written is read back.
use mathlib.Core.Path.{◌≡◌, refl, ap, ap₂, sym, subst, ◌∙◌}
use mathlib.Core.Bool.{Bool, true, false, cond, ◌&&◌}
use mathlib.Core.List.{List, [], ◌∷◌, ◌++◌, append_assoc, append-nil}
use Prim.Native.Nat.{ℕ, zero, suc, ◌+◌, ◌-◌, ◌*◌, ◌^◌, ◌<◌, ◌≤◌}
use native.Mathlib.Omega.{arith}
use native.Mathlib.Nat.{min-le_left}
use lib.Pow.{shl_lt}
use lib.Dec.{eqb, ltb}
use lib.ListN.{length, take, drop, get_or, replicate, length-append, length-take, length-drop}
use lib.Seq.{take_all}
use borrow.Author.Tests.{eqb-true, eq-eqb, leb-true}
use Rattle.pkg_length.specs.Refusal.{gives}
use Rattle.pkg_length.proofs.Answers.{gives_same, then-gives, never, halves}
use Rattle.table.specs.Limits.{Limits}
use Rattle.table.specs.Tree.{Binding, Forest, none, level, Tree, bound, level_count, is_live}
use Rattle.table.specs.Layout.{pack, flat}
use Rattle.table.specs.Valid.{some, name_ok, segment_ok}
use Rattle.table.specs.Inside.{counts}
use Rattle.table.proofs.Shape.{Valid, level-tests}
use Rattle.table.proofs.Whole.{Whole, level-count}
use Rattle.table.proofs.Words.{count-pack}
use Rattle.image.specs.Bits.{Field, field, spelled, bits, bits_in, bytes_for, bytes_of, packed, number_of, number_at}
use Rattle.image.specs.Format.{Format, header_bits, level_bits, binding_bits, bindings_place, objects_place, image_bits, image_length}
use Rattle.image.specs.Image.{children, below_root, level_fields, bound_fields, object_fields, image_fields, image}
use Rattle.image.specs.Reader.{first, levels_in, bindings_in, objects_in, header_checks, levels_checks, root_seen, bound_checks, object_checks, end_checks, rest_checks, body_checks, image_checks, count_at, after, level_words, bound_at, objects_at, all_words, tree_in, image_in}
use Rattle.image.specs.Inside.{words_fields, counted_fields, counts_fields, table_fields}
use Rattle.image.proofs.Fields.{length-bits_in, number-low, bits-number, number-at-low}
use Rattle.image.proofs.Ink.{bits-zero, packed-bits, length-packed, bytes-again}
use Rattle.image.proofs.Checks.{head-holds, both_first}
use Rattle.image.proofs.Rooms.{bound-room, objects-room, bound-count}
use Rattle.image.proofs.Steps.{HeaderHolds, header-holds}
use Rattle.image.proofs.Contents.{Contents, contents, length-all_words, length-objects_at}
use Rattle.image.proofs.Written.{spelled-append, counts-append, levels-fields, bound-fields, length-words, length-counted, length-objects, length-spelled}
use Rattle.image.proofs.Again.{field-here, levels-again, bound-again, objects-again}

-- Fields of a tree, from its words.

module _ (f : Format) (limit : ℕ) (live : ℕ → Bool) where
  -- no level stands beside the root
  alone : {T : Type 0} (r lo s t : ℕ) (b : List Binding) (kids next : Forest) → r ≡ 1 → 0 < lo → Valid limit live r lo (level s t b kids next) → T
  alone r lo s t b kids next e h v =
      let k = level-tests limit r lo s t (length b) v.0.ok in
      absurd (omega (arith, k.rises, zero-segment r s t e k.named))
    where
      zero-segment : (r s t : ℕ) → r ≡ 1 → name_ok r s t ≡ true → s ≡ 0
      zero-segment r s t e n = go (eqb r 1) (eq-eqb r 1 e) n
        where
          go : (x : Bool) → x ≡ true → cond x (eqb s 0 && eqb t 0) (segment_ok s && ltb t 6) ≡ true → s ≡ 0
          go true d n = eqb-true s 0 (halves (eqb s 0) (eqb t 0) n).0
          go false d n = never d

  less : (n : ℕ) → suc n - 1 ≡ n
  less n = omega arith

  root-fields : (F : Forest) → Valid limit live 1 0 F → (words_fields f (drop 1 (flat 1 F)) ≡ level_fields f 1 (children F)) × (length (flat 1 F) - 1 ≡ level_count (children F))
  unfolding flat
  root-fields none v = (unfold words_fields level_fields in refl, unfold level_count in refl)
  root-fields (level s t b kids none) v =
      (rw (append-nil (flat 2 kids)) (levels-fields f limit live 1 0 kids v.1), rw (append-nil (flat 2 kids)) (less (length (flat 2 kids)) ∙ level-count kids 2))
  root-fields (level s t b kids (level s' t' b' kids' next)) v = alone 1 (suc s) s' t' b' kids' next refl (omega arith) v.2

-- whatever bindings follow
pub fields-are : (f : Format) (m : Limits) (t : Tree) (X : List Binding) → Whole m t → table_fields f (flat 1 t.levels) (length (bound t.levels)) (bound t.levels ++ X) t.objects ≡ image_fields f t
unfolding table_fields counts_fields image_fields
fields-are f m t X w =
    let r = root-fields f m.components (is_live t) t.levels w.forest in
    let b = bound-fields f m.components (is_live t) 1 0 t.levels [] X w.forest in
    rw (r.0, r.1)
    (ap (λ (l : List Field). field 4 f.edition ∷ field 8 (level_count (children t.levels)) ∷ field 10 (length (bound t.levels)) ∷ field 10 (length t.objects) ∷ (level_fields f 1 (children t.levels) ++ (l ++ object_fields t.objects)))
    (ap (λ (l : List ℕ). counted_fields f l (bound t.levels ++ X)) (sym (append-nil (flat 1 t.levels))) ∙ b ∙ no_more (bound_fields f t.levels) X))
  where
    no_more : (l : List Field) (X : List Binding) → l ++ counted_fields f [] X ≡ l
    no_more l X = unfold counted_fields in append-nil l

-- as many bindings as the counts of the levels say
pub counts-bound : (limit : ℕ) (live : ℕ → Bool) (r lo : ℕ) (F : Forest) → Valid limit live r lo F → counts (flat r F) ≡ length (bound F)
unfolding flat bound counts
counts-bound limit live r lo none v = refl
counts-bound limit live r lo (level s t b kids next) v =
    rw (
      count-pack r t (length b) s v.0.small v.0.few v.0.fits,
      counts-append (flat (suc r) kids) (flat r next),
      counts-bound limit live (suc r) 0 kids v.1,
      counts-bound limit live r (suc s) next v.2,
      length-append b (bound kids ++ bound next),
      length-append (bound kids) (bound next),
    )

-- the bits and the bytes of an image, from the three counts
module _ (f : Format) (m : Limits) (t : Tree) (w : Whole m t) where
  abbrev ws : List ℕ
  ws = flat 1 t.levels

  abbrev bd : List Binding
  bd = bound t.levels ++ []

  some_words : (F : Forest) → some F ≡ true → 1 ≤ length (flat 1 F)
  unfolding flat
  some_words none h = never h
  some_words (level s t b kids next) h = omega arith

  counted-long : length (spelled (counted_fields f ws bd)) ≡ length ws * 10 + length (bound t.levels) * binding_bits f
  counted-long =
      let k = counts-bound m.components (is_live t) 1 0 t.levels w.forest in
      length-counted f ws bd (rw (append-nil (bound t.levels), k) (omega arith)) ∙ ap (λ (n : ℕ). length ws * 10 + n * binding_bits f) k

  words_long : length (spelled (words_fields f (drop 1 ws))) ≡ (length ws - 1) * level_bits f
  words_long = length-words f (drop 1 ws) ∙ ap (λ (n : ℕ). n * level_bits f) (length-drop 1 ws)

  counts-long : length (spelled (counts_fields f (length ws - 1) (length (bound t.levels)) (length t.objects))) ≡ 32
  unfolding counts_fields
  counts-long = length-spelled (field 4 f.edition ∷ field 8 (length ws - 1) ∷ field 10 (length (bound t.levels)) ∷ field 10 (length t.objects) ∷ [])

  four : (a b c d : List Bool) → length (a ++ (b ++ (c ++ d))) ≡ length a + (length b + (length c + length d))
  four a b c d = simp length-append

  table-long : length (spelled (table_fields f ws (length (bound t.levels)) bd t.objects)) ≡ image_bits f (length ws - 1) (length (bound t.levels)) (length t.objects)
  unfolding table_fields
  table-long =
      rw (
        spelled-append (counts_fields f (length ws - 1) (length (bound t.levels)) (length t.objects)) (words_fields f (drop 1 ws) ++ (counted_fields f ws bd ++ object_fields t.objects)),
        spelled-append (words_fields f (drop 1 ws)) (counted_fields f ws bd ++ object_fields t.objects),
        spelled-append (counted_fields f ws bd) (object_fields t.objects),
        four (spelled (counts_fields f (length ws - 1) (length (bound t.levels)) (length t.objects))) (spelled (words_fields f (drop 1 ws))) (spelled (counted_fields f ws bd)) (spelled (object_fields t.objects)),
        counts-long,
        words_long,
        counted-long,
        length-objects t.objects,
      )
      (sum ((length ws - 1) * level_bits f) (length ws) (length (bound t.levels) * binding_bits f) (length t.objects) (some_words t.levels w.rooted))
    where
      sum : (a n b o : ℕ) → 1 ≤ n → 32 + (a + (n * 10 + b + o * 64)) ≡ 32 + a + (suc (n - 1) * 10 + b) + o * 64
      sum a n b o h = omega arith

  pub bits_are : length (spelled (image_fields f t)) ≡ image_bits f (length ws - 1) (length (bound t.levels)) (length t.objects)
  bits_are = ap (λ (l : List Field). length (spelled l)) (sym (fields-are f m t [] w)) ∙ table-long

  -- the bytes of an image, from the three counts
  pub image-length : length (image f t) ≡ image_length f (level_count (below_root t)) (length (bound t.levels)) (length t.objects)
  unfolding image
  image-length =
      let r = root-fields f m.components (is_live t) t.levels w.forest in
      length-packed (spelled (image_fields f t)) ∙ ap bytes_for bits_are ∙ ap (λ (n : ℕ). image_length f n (length (bound t.levels)) (length t.objects)) r.1

-- Bytes and their bits.

bytes_back : (bytes : List ℕ) → ((j : ℕ) → get_or bytes j 0 < 256) → bytes_of (length bytes) (bits_in bytes) ≡ bytes
bytes_back bytes h =
    ap₂ bytes_of (plus_none (length bytes)) (ap bits_in (sym (take_all (length bytes) bytes (omega arith))) ∙ sym (append-nil (bits_in (take (length bytes) bytes))))
    ∙ bytes-again (length bytes) 0 bytes [] (omega arith) h ∙ unfold bytes_of in (append-nil (take (length bytes) bytes) ∙ take_all (length bytes) bytes (omega arith))
  where
    plus_none : (n : ℕ) → n ≡ n + 0
    plus_none n = omega arith

pub bytes_low : (n : ℕ) (xs : List Bool) (j : ℕ) → get_or (bytes_of n xs) j 0 < 256
unfolding bytes_of
bytes_low zero xs j = omega arith
bytes_low (suc n) xs zero =
    let l : length (take 8 xs) ≤ 8 = rw (length-take 8 xs) (min-le_left 8 (length xs)) in
    subst (λ (k : ℕ). number_of (take 8 xs) * 2 ^ (8 - length (take 8 xs)) < 2 ^ k) (eight (length (take 8 xs)) l) (shl_lt (length (take 8 xs)) (8 - length (take 8 xs)) (number-low (take 8 xs)))
  where
    eight : (n : ℕ) → n ≤ 8 → n + (8 - n) ≡ 8
    eight n h = omega arith
bytes_low (suc n) xs (suc j) = bytes_low n (drop 8 xs) j

-- bytes whose bits are those of a list and spare zeros are what it is packed as
pub packed-is : (bytes : List ℕ) (xs : List Bool) → ((j : ℕ) → get_or bytes j 0 < 256) → bits_in bytes ≡ bits_in (packed xs) → bytes ≡ packed xs
packed-is bytes xs h e =
    let l : length bytes ≡ length (packed xs) = same (length bytes) (length (packed xs)) (sym (length-bits_in bytes) ∙ ap length e ∙ length-bits_in (packed xs)) in
    sym (bytes_back bytes h) ∙ ap₂ bytes_of l e ∙ bytes_back (packed xs) (λ j. unfold packed in bytes_low (bytes_for (length xs)) xs j)
  where
    same : (a b : ℕ) → 8 * a ≡ 8 * b → a ≡ b
    same a b e = omega arith

-- spare bits that spell 0
zeros-are : (xs : List Bool) (n : ℕ) → length xs ≡ n → number_of xs ≡ 0 → xs ≡ replicate n false
zeros-are xs n l e = sym (bits-number xs n l) ∙ ap (bits n) e ∙ bits-zero n

-- An image that passes.

module _ (f : Format) (m : Limits) (bytes : List ℕ) (ok : first (image_checks f m (bits_in bytes)) ≡ gives tt) where
  abbrev bs : List Bool
  bs = bits_in bytes

  abbrev N : ℕ
  N = levels_in bs

  abbrev T : ℕ
  T = bindings_in bs

  abbrev O : ℕ
  O = objects_in bs

  parts : (first (header_checks f m bs) ≡ gives tt) × (first (body_checks f bs N T O) ≡ gives tt)
  unfolding image_checks
  parts = both_first (header_checks f m bs) (body_checks f bs N T O) ok

  body : (first (levels_checks f bs N header_bits 0 (root_seen f)) ≡ gives tt) × (first (bound_checks f bs O N header_bits (bindings_place f N) 0 T ++ rest_checks f bs N T O) ≡ gives tt)
  unfolding body_checks
  body = both_first (levels_checks f bs N header_bits 0 (root_seen f)) (bound_checks f bs O N header_bits (bindings_place f N) 0 T ++ rest_checks f bs N T O) parts.1

  tail : (first (bound_checks f bs O N header_bits (bindings_place f N) 0 T) ≡ gives tt) × (first (rest_checks f bs N T O) ≡ gives tt)
  tail = both_first (bound_checks f bs O N header_bits (bindings_place f N) 0 T) (rest_checks f bs N T O) body.1

  ends : (first (object_checks bs O (objects_place f N T)) ≡ gives tt) × (first (end_checks bs (image_bits f N T O)) ≡ gives tt)
  unfolding rest_checks
  ends = both_first (object_checks bs O (objects_place f N T)) (end_checks bs (image_bits f N T O)) tail.1

  pub head : HeaderHolds f m bs
  head = header-holds f m bs parts.0

  pub levels-ok : first (levels_checks f bs N header_bits 0 (root_seen f)) ≡ gives tt
  levels-ok = body.0

  pub bound-ok : first (bound_checks f bs O N header_bits (bindings_place f N) 0 T) ≡ gives tt
  bound-ok = tail.0

  pub objects-there : objects_place f N T + O * 64 ≤ length bs
  objects-there = objects-room bs O (objects_place f N T) ends.0 (bound-room f bs O N header_bits (bindings_place f N) 0 T bound-ok)

  -- no byte is left over
  pub length-is : length bs ≡ 8 * bytes_for (image_bits f N T O)
  unfolding end_checks
  length-is =
      let h : length bs ≤ 8 * bytes_for (image_bits f N T O) = leb-true (length bs) (8 * bytes_for (image_bits f N T O)) (head-holds _ _ (head-holds _ _ ends.1).1).0 in
      omega (arith, h, length-bits_in bytes, objects-there)

  pub read-contents : suc f.deepest ≡ m.components → f.handle_bits ≤ 32 → m.objects ≤ 2 ^ 32 → Contents f m bs
  read-contents deep narrow hm = contents f m bs deep narrow hm head.levels head.bindings head.objects levels-ok bound-ok

  -- the bits are the fields of what was read, and spare zeros
  abbrev Q : ℕ
  Q = bindings_place f N

  abbrev E : ℕ
  E = image_bits f N T O

  abbrev W : List ℕ
  W = all_words f bs N

  abbrev D : List Binding
  D = bound_at f bs (suc N) Q

  abbrev Vs : List ℕ
  Vs = objects_at bs O (objects_place f N T)

  header-again : bs ≡ spelled (counts_fields f N T O) ++ drop 32 bs
  unfolding counts_fields spelled
  header-again =
      let r = head.room in
      field-here bs 0 4 (omega arith)
      ∙ ap₂ (λ (e : ℕ) (l : List Bool). bits 4 e ++ l) (eqb-true (number_at bs 4 0) f.edition head.edition)
      (field-here bs 4 8 (omega arith)
      ∙ ap (λ (l : List Bool). bits 8 N ++ l) (field-here bs 12 10 (omega arith) ∙ ap (λ (l : List Bool). bits 10 T ++ l) (field-here bs 22 10 r)))
      ∙ regroup (bits 4 f.edition) (bits 8 N) (bits 10 T) (bits 10 O) (drop 32 bs)
    where
      regroup : (a b c d e : List Bool) → a ++ (b ++ (c ++ (d ++ e))) ≡ (a ++ (b ++ (c ++ (d ++ [])))) ++ e
      regroup a b c d e = simp (append_assoc, append-nil)

  all-again : bs ≡ spelled (counts_fields f N T O) ++ (spelled (words_fields f (drop 1 W)) ++ (spelled (counted_fields f W D) ++ (spelled (object_fields Vs) ++ drop E bs)))
  unfolding all_words
  all-again =
      header-again
      ∙ ap (λ (l : List Bool). spelled (counts_fields f N T O) ++ l)
      (levels-again f bs N header_bits (after f bs Q) 0 (root_seen f) levels-ok
      ∙ ap (λ (l : List Bool). spelled (words_fields f (level_words f bs N header_bits (after f bs Q))) ++ l)
      (bound-again f bs O N header_bits Q 0 T (pack 1 0 (count_at bs Q) 0) (count-pack 1 0 (count_at bs Q) 0 (omega arith) (number-at-low bs 10 Q) (omega arith)) bound-ok
      ∙ ap (λ (l : List Bool). spelled (counted_fields f (pack 1 0 (count_at bs Q) 0 ∷ level_words f bs N header_bits (after f bs Q)) D) ++ l)
      (objects-again bs O (objects_place f N T) ends.0)))

  abbrev X : List Bool
  X = spelled (table_fields f W T D Vs)

  spelled-again : bs ≡ X ++ drop E bs
  unfolding table_fields
  spelled-again =
      all-again
      ∙ sym (rw (
        ap (λ (n : ℕ). n - 1) (length-all_words f bs N),
        length-objects_at bs O (objects_place f N T),
        spelled-append (counts_fields f (suc N - 1) T O) (words_fields f (drop 1 W) ++ (counted_fields f W D ++ object_fields Vs)),
        spelled-append (words_fields f (drop 1 W)) (counted_fields f W D ++ object_fields Vs),
        spelled-append (counted_fields f W D) (object_fields Vs),
      )
      (ap (λ (n : ℕ). (spelled (counts_fields f n T O) ++ (spelled (words_fields f (drop 1 W)) ++ (spelled (counted_fields f W D) ++ spelled (object_fields Vs)))) ++ drop E bs) (less N)
      ∙ regroup (spelled (counts_fields f N T O)) (spelled (words_fields f (drop 1 W))) (spelled (counted_fields f W D)) (spelled (object_fields Vs)) (drop E bs)))
    where
      less : (n : ℕ) → suc n - 1 ≡ n
      less n = omega arith

      regroup : (a b c d e : List Bool) → (a ++ (b ++ (c ++ d))) ++ e ≡ a ++ (b ++ (c ++ (d ++ e)))
      regroup a b c d e = simp append_assoc

  rest-long : length (drop E bs) ≡ 8 * bytes_for E - E
  rest-long = length-drop E bs ∙ ap (λ (n : ℕ). n - E) length-is

  long-X : length X ≡ E
  long-X = omega (arith, ap length spelled-again, length-append X (drop E bs), rest-long, length-is, objects-there)

  rest-zero : drop E bs ≡ replicate (8 * bytes_for E - E) false
  unfolding end_checks
  rest-zero =
      zeros-are (drop E bs) (8 * bytes_for E - E) rest-long
      (ap number_of (sym (take_all (8 * bytes_for E - E) (drop E bs) (rw rest-long (omega arith)))) ∙ eqb-true (number_at bs (8 * bytes_for E - E) E) 0 (head-holds _ _ ends.1).0)

  read_again : ((j : ℕ) → get_or bytes j 0 < 256) → bytes ≡ packed X
  read_again low =
      packed-is bytes X low
      (spelled-again ∙ rw rest-zero (ap (λ (n : ℕ). X ++ replicate (8 * bytes_for n - n) false) (sym long-X)) ∙ sym (packed-bits X))

  module _ (deep : suc f.deepest ≡ m.components) (narrow : f.handle_bits ≤ 32) (hm : m.objects ≤ 2 ^ 32) where
    found : Contents f m bs
    found = read-contents deep narrow hm

    counted : length (bound (tree_in f bs).levels) ≡ T
    counted = ap length found.bindings ∙ bound-count f bs O N header_bits Q 0 T bound-ok

    values-are : (tree_in f bs).objects ≡ Vs
    unfolding tree_in
    values-are = refl

    fields-again : table_fields f W T D Vs ≡ image_fields f (tree_in f bs)
    fields-again =
        sym (λ i. table_fields f (found.levels i) (counted i) ((append-nil (bound (tree_in f bs).levels) ∙ found.bindings) i) (values-are i))
        ∙ fields-are f m (tree_in f bs) [] found.whole

-- an image that is read is exactly what the writer writes of its tree, which a table may hold; so every other spelling is refused
pub one-image : (f : Format) (m : Limits) (bytes : List ℕ) (t : Tree) → suc f.deepest ≡ m.components → f.handle_bits ≤ 32 → m.objects ≤ 2 ^ 32 → ((j : ℕ) → get_or bytes j 0 < 256)
    → image_in f m bytes ≡ gives t → (bytes ≡ image f t) × Whole m t
unfolding image_in image
one-image f m bytes t deep narrow hm low h =
    let x = then-gives (first (image_checks f m (bits_in bytes))) (λ _. gives (tree_in f (bits_in bytes))) h in
    let e : tree_in f (bits_in bytes) ≡ t = gives_same x.2 in (
      read_again f m bytes x.1 low ∙ ap (λ (l : List Field). packed (spelled l)) (fields-again f m bytes x.1 deep narrow hm) ∙ ap (λ (u : Tree). packed (spelled (image_fields f u))) e,
      subst (Whole m) e (read-contents f m bytes x.1 deep narrow hm).whole,
    )

-- and two images of one tree are the same bytes
pub same-image : (f : Format) (m : Limits) (bytes others : List ℕ) (t : Tree) → suc f.deepest ≡ m.components → f.handle_bits ≤ 32 → m.objects ≤ 2 ^ 32
    → ((j : ℕ) → get_or bytes j 0 < 256) → ((j : ℕ) → get_or others j 0 < 256) → image_in f m bytes ≡ gives t → image_in f m others ≡ gives t → bytes ≡ others
same-image f m bytes others t deep narrow hm low low' h k = (one-image f m bytes t deep narrow hm low h).0 ∙ sym (one-image f m others t deep narrow hm low' k).0
