-- What passes the checks is a tree that a table may hold, and the words that are read are its memory: read as the table reads its own words,
-- each level passes the table's test of memory, and so the words are what one valid tree is written as.
use mathlib.Core.Path.{◌≡◌, refl, ap, ap₂, sym, subst, ◌∙◌}
use mathlib.Core.Bool.{Bool, true, false, not, ◌||◌}
use mathlib.Core.List.{List, [], ◌∷◌, ◌++◌, append-nil, map, map-append}
use Prim.Native.Nat.{ℕ, zero, suc, ◌+◌, ◌-◌, ◌/◌, ◌%◌, ◌^◌, ◌<◌, ◌≤◌}
use native.Mathlib.Omega.{arith}
use native.Mathlib.Nat.{suc-add, lt_of_lt_of_le, le_trans}
use native.Mathlib.Numerals.{add-one}
use lib.Dec.{eqb}
use lib.ListN.{length, get_or, set, replicate, length-append, length-map, length-replicate}
use lib.Seq.{get_or-append_seam}
use lib.Pow.{pow_mono}
use Rattle.table.proofs.Facts.{get_or-zeros}
use Rattle.table.proofs.Memory.{bound-back}
use Rattle.image.specs.Inside.{loaded}
use borrow.Author.Tests.{lt-ltb, le-ltb, ltb-true, ne_eqb, eqb-true, eqb-false}
use Rattle.pkg_length.specs.Refusal.{gives}
use Rattle.name_object.specs.Memory.{all_zero}
use Rattle.table.specs.Limits.{Limits}
use Rattle.table.specs.Tree.{Binding, Forest, none, level, bound}
use Rattle.table.specs.Layout.{pack, bind_word, binding_of, flat, encode}
use Rattle.table.specs.Valid.{segment_ok, rising, count_ok, level_ok, some}
use Rattle.table.specs.Inside.{scan, lowest, below}
use Rattle.table.proofs.Numbers.{number_ok, segment-range}
use Rattle.table.proofs.Shape.{Small, LevelFit, fit, binding-tests, tests-binding, tests-level, Valid}
use Rattle.table.proofs.Words.{binding-back}
use Rattle.table.proofs.Complete.{scan-level}
use Rattle.table.proofs.Sound.{sibs, unwind, unwind_b, Good, sound}
use Rattle.table.proofs.Whole.{Whole}
use Rattle.image.specs.Bits.{number_at}
use Rattle.image.specs.Format.{Format, header_bits, level_bits, binding_bits, bindings_place, objects_place}
use Rattle.image.specs.Reader.{first, are_chars_ok, segment_number, depth_at, type_at, chars_at, level_checks, levels_checks, seen, root_seen, handle_at, binding_checks, bindings_checks, count_at, bound_checks, after, word_of_level, level_words, bindings_at, bound_at, objects_at, all_words, tree_in, levels_in, bindings_in, objects_in}
use Rattle.image.proofs.Fields.{number-at-low}
use Rattle.image.proofs.Checks.{both_first}
use Rattle.image.proofs.Rooms.{LevelHolds, level_holds, binding-holds, CountHolds, Opened, open-last, open_more, length-bindings_at, bound-count}

-- four characters that are a segment have a segment's number
pub chars-segment : (v : ℕ) → are_chars_ok v ≡ true → segment_ok (segment_number v) ≡ true
unfolding are_chars_ok segment_number
chars-segment v h = number_ok (v / 2 ^ 24) (v / 2 ^ 16 % 256) (v / 2 ^ 8 % 256) (v % 256) h

-- bindings that pass rise
pub bindings-rise : (f : Format) (bs : List Bool) (made n q lo : ℕ) → first (bindings_checks f bs made n q lo) ≡ gives tt → rising (below made) lo (bindings_at f bs n q) ≡ true
unfolding bindings_checks bindings_at
bindings-rise f bs made zero q lo h = unfold rising in refl
bindings-rise f bs made (suc n) q lo h =
    let x = both_first (binding_checks f bs made q lo) _ h in
    let b = binding-holds f bs made q lo x.0 in
    tests-binding (below made) lo _ (bindings_at f bs n (q + binding_bits f))
    (record {
      rises = b.segment.rises;
      named = chars-segment (number_at bs 32 q) b.segment.named;
      alive = lt-ltb _ _ b.live;
      later = rw (add-one (segment_number (number_at bs 32 q))) at (bindings-rise f bs made n (q + binding_bits f) (segment_number (number_at bs 32 q) + 1) x.1);
    })

module _ (f : Format) (bs : List Bool) (made limit : ℕ) (deep : suc f.deepest ≡ limit) (hm : made ≤ 2 ^ 32) where
  small : Small (below made)
  small h e = omega (arith, ltb-true h made e)

  -- a count that passes is one of the table's
  count-ok : (last : Bool) (q d rest : ℕ) → d ≤ f.deepest → CountHolds f bs last q d rest → count_ok limit (suc d) (count_at bs q) ≡ true
  count-ok last q d rest h c = go (eqb d f.deepest) refl c.deep
    where
      low : count_at bs q < 1024
      low = number-at-low bs 10 q

      less : (d ≡ f.deepest → ⊥) → suc d < limit
      less n = omega arith

      go : (x : Bool) → eqb d f.deepest ≡ x → (not x || eqb (count_at bs q) 0) ≡ true → count_ok limit (suc d) (count_at bs q) ≡ true
      go true e k = rw (le-ltb (suc d) limit (omega (arith, eqb-true d f.deepest e))) k
      go false e k = let n = eqb-false d f.deepest e in rw (lt-ltb (suc d) limit (less n)) (lt-ltb (count_at bs q) 1024 low)

  module _ (last : Bool) (n p₁ q rest : ℕ) where
    -- the root, and a level below it
    root-fit : Opened f bs made n p₁ q 0 rest last → LevelFit limit (below made) 1 0 0 0 (bindings_at f bs (count_at bs q) (q + 10))
    unfolding level_ok
    root-fit o =
        fit limit (below made) 1 0 0 0 (bindings_at f bs (count_at bs q) (q + 10))
        (rw (length-bindings_at f bs (count_at bs q) (q + 10))
        (tests-level limit 1 0 0 0 (count_at bs q) (record { ranked = omega arith; shallow = omega arith; rises = omega arith; named = refl; counted = count-ok last q 0 rest (omega arith) o.count })))
        (bindings-rise f bs made (count_at bs q) (q + 10) 0 o.own)

    level-fit : (p before : ℕ) (low : List ℕ) → LevelHolds f bs p before low → Opened f bs made n p₁ q (depth_at f bs p) rest last
        → LevelFit limit (below made) (suc (depth_at f bs p)) (get_or low (depth_at f bs p) 0) (segment_number (chars_at f bs p)) (type_at f bs p) (bindings_at f bs (count_at bs q) (q + 10))
    level-fit p before low l o =
        fit limit (below made) (suc (depth_at f bs p)) (get_or low (depth_at f bs p) 0) (segment_number (chars_at f bs p)) (type_at f bs p) (bindings_at f bs (count_at bs q) (q + 10))
        (rw (length-bindings_at f bs (count_at bs q) (q + 10))
        (tests-level limit (suc (depth_at f bs p)) (get_or low (depth_at f bs p) 0) (segment_number (chars_at f bs p)) (type_at f bs p) (count_at bs q)
        (record {
          ranked = omega arith;
          shallow = omega (arith, l.shallow);
          rises = l.segment.rises;
          named = rw (ne_eqb (suc (depth_at f bs p)) 1 (λ e. omega (arith, l.below)), chars-segment (chars_at f bs p) l.segment.named, lt-ltb (type_at f bs p) 6 l.typed);
          counted = count-ok last q (depth_at f bs p) rest l.shallow o.count;
        })))
        (bindings-rise f bs made (count_at bs q) (q + 10) 0 o.own)

  -- a level's word, with its bindings in front of others
  module _ (d : ℕ) (x : ℕ) (low : List ℕ) (s t r lo q : ℕ) (W : List ℕ) (X : List Binding) (h : LevelFit limit (below made) r lo s t (bindings_at f bs (count_at bs q) (q + 10))) (step : r ≤ d + 1) where
    own-scan : (full : List ℕ) → get_or full r 0 ≡ lo
        → scan limit (below made) d full (pack r t (count_at bs q) s ∷ W) (map bind_word (bindings_at f bs (count_at bs q) (q + 10) ++ X))
        ≡ scan limit (below made) r (set (set full r (s + 1)) (r + 1) 0) W (map bind_word X)
    own-scan full e =
        rw (map-append bind_word (bindings_at f bs (count_at bs q) (q + 10)) X)
        (ap (λ (n : ℕ). scan limit (below made) d full (pack r t n s ∷ W) (map bind_word (bindings_at f bs (count_at bs q) (q + 10)) ++ map bind_word X)) (sym (length-bindings_at f bs (count_at bs q) (q + 10)))
        ∙ scan-level limit (below made) small d r lo s t full (bindings_at f bs (count_at bs q) (q + 10)) W (map bind_word X) h step e)

  -- n levels, and their bindings, the first of which stand at q
  abbrev Left : ℕ → ℕ → ℕ → ℕ → Type 0
  Left zero p q rest = Unit {0}
  Left (suc n) p q rest = first (bound_checks f bs made n (p + level_bits f) q (depth_at f bs p) rest) ≡ gives tt

  head-left : (n p q rest : ℕ) → Left (suc n) p q rest → (last : Bool) × Opened f bs made n (p + level_bits f) q (depth_at f bs p) rest last × Left n (p + level_bits f) (after f bs q) (rest - count_at bs q)
  head-left zero p q rest h = (true, open-last f bs made (p + level_bits f) q (depth_at f bs p) rest h, tt)
  head-left (suc n) p q rest h = let x = open_more f bs made n (p + level_bits f) q (depth_at f bs p) rest h in (false, again x.0, x.1)
    where
      again : {d k : ℕ} → Opened f bs made k (p + level_bits f) q d rest false → Opened f bs made (suc n) (p + level_bits f) q d rest false
      again o = record { count = o.count; own = o.own; room = o.room }

  pub scan-levels : (n p q d rest x : ℕ) (low : List ℕ) → first (levels_checks f bs n p d low) ≡ gives tt → Left n p q rest
      → scan limit (below made) (suc d) (x ∷ low) (level_words f bs n p q) (map bind_word (bound_at f bs n q)) ≡ true
  unfolding levels_checks level_words bound_at word_of_level
  scan-levels zero p q d rest x low h b = unfold scan all_zero in refl
  scan-levels (suc n) p q d rest x low h b =
      let y = both_first (level_checks f bs p d low) _ h in
      let l = level_holds f bs p d low y.0 in
      let o = head-left n p q rest b in
      own-scan (suc d) x low (segment_number (chars_at f bs p)) (type_at f bs p) (suc (depth_at f bs p)) (get_or low (depth_at f bs p) 0) q _ _
      (level-fit o.0 n (p + level_bits f) q rest p d low l o.1) (omega (arith, l.step)) (x ∷ low) refl
      ∙ rw (suc-add (depth_at f bs p) 1) (scan-levels n (p + level_bits f) (after f bs q) (depth_at f bs p) (rest - count_at bs q) x (seen low (depth_at f bs p) (segment_number (chars_at f bs p))) y.1 o.2)

-- Words that are none of them 0.

-- a list of such words that ends in spare ones has none
no-spare : (xs ys : List ℕ) (n : ℕ) → xs ≡ ys ++ replicate n 0 → ((k : ℕ) → k < length xs → get_or xs k 0 ≡ 0 → ⊥) → xs ≡ ys
no-spare xs ys zero e h = e ∙ append-nil ys
no-spare xs ys (suc n) e h =
    absurd (h (length ys) (omega (arith, ap length e, length-append ys (0 ∷ replicate n 0))) (ap (λ (l : List ℕ). get_or l (length ys) 0) e ∙ get_or-append_seam ys 0 (replicate n 0) 0))

words-ranked : (f : Format) (bs : List Bool) (n p q k : ℕ) → k < n → 2 ^ 45 ≤ get_or (level_words f bs n p q) k 0
unfolding level_words word_of_level pack
words-ranked f bs zero p q k h = absurd (omega arith)
words-ranked f bs (suc n) p q zero h = omega arith
words-ranked f bs (suc n) p q (suc k) h = words-ranked f bs n (p + level_bits f) (after f bs q) k (omega arith)

length-level_words : (f : Format) (bs : List Bool) (n p q : ℕ) → length (level_words f bs n p q) ≡ n
unfolding level_words
length-level_words f bs zero p q = refl
length-level_words f bs (suc n) p q = ap suc (length-level_words f bs n (p + level_bits f) (after f bs q))

pub length-all_words : (f : Format) (bs : List Bool) (n : ℕ) → length (all_words f bs n) ≡ suc n
unfolding all_words
length-all_words f bs n = ap suc (length-level_words f bs n header_bits (after f bs (bindings_place f n)))

all-ranked : (f : Format) (bs : List Bool) (n k : ℕ) → k < suc n → 2 ^ 45 ≤ get_or (all_words f bs n) k 0
unfolding all_words pack
all-ranked f bs n zero h = omega arith
all-ranked f bs n (suc k) h = words-ranked f bs n header_bits (after f bs (bindings_place f n)) k (omega arith)

-- bindings whose segments are segments
rising-words : (live : ℕ → Bool) (lo : ℕ) (b : List Binding) (k : ℕ) → rising live lo b ≡ true → k < length b → 0 < get_or (map bind_word b) k 0
rising-words live lo [] k h l = absurd (omega arith)
rising-words live lo (b ∷ bs) zero h l = let t = binding-tests live lo b bs h in let r = segment-range b.segment t.named in omega arith
rising-words live lo (b ∷ bs) (suc k) h l = rising-words live (suc b.segment) bs k (binding-tests live lo b bs h).later (omega arith)

get_or-either : (xs ys : List ℕ) (k : ℕ) → ((j : ℕ) → j < length xs → 0 < get_or xs j 0) → ((j : ℕ) → j < length ys → 0 < get_or ys j 0) → k < length (xs ++ ys) → 0 < get_or (xs ++ ys) k 0
get_or-either [] ys k h g l = g k l
get_or-either (x ∷ xs) ys zero h g l = h 0 (omega arith)
get_or-either (x ∷ xs) ys (suc k) h g l = get_or-either xs ys k (λ j m. h (suc j) (omega arith)) g (omega arith)

module _ (f : Format) (bs : List Bool) (made : ℕ) where
  bound-words : (n p q d rest k : ℕ) → first (bound_checks f bs made n p q d rest) ≡ gives tt → k < length (bound_at f bs (suc n) q) → 0 < get_or (map bind_word (bound_at f bs (suc n) q)) k 0
  unfolding bound_at
  bound-words zero p q d rest k h l =
      let o = open-last f bs made p q d rest h in
      rw (append-nil (bindings_at f bs (count_at bs q) (q + 10))) (rising-words (below made) 0 (bindings_at f bs (count_at bs q) (q + 10)) k (bindings-rise f bs made (count_at bs q) (q + 10) 0 o.own) (rw (append-nil (bindings_at f bs (count_at bs q) (q + 10))) at l))
  bound-words (suc n) p q d rest k h l =
      let x = open_more f bs made n p q d rest h in
      let A = bindings_at f bs (count_at bs q) (q + 10) in
      let B = bound_at f bs (suc n) (after f bs q) in
      rw (map-append bind_word (bindings_at f bs (count_at bs q) (q + 10)) (bound_at f bs (suc n) (after f bs q)))
      (get_or-either (map bind_word (bindings_at f bs (count_at bs q) (q + 10))) (map bind_word (bound_at f bs (suc n) (after f bs q))) k
      (λ j m. rising-words (below made) 0 (bindings_at f bs (count_at bs q) (q + 10)) j (bindings-rise f bs made (count_at bs q) (q + 10) 0 x.0.own) (rw (length-map (bindings_at f bs (count_at bs q) (q + 10)) bind_word) at m))
      (λ j m. bound-words n (p + level_bits f) (after f bs q) (depth_at f bs p) (rest - count_at bs q) j x.1 (rw (length-map (bound_at f bs (suc n) (after f bs q)) bind_word) at m))
      (subst (λ (z : ℕ). k < z) (sym (sym (ap length (map-append bind_word (bindings_at f bs (count_at bs q) (q + 10)) (bound_at f bs (suc n) (after f bs q)))) ∙ length-map (bindings_at f bs (count_at bs q) (q + 10) ++ bound_at f bs (suc n) (after f bs q)) bind_word)) l))

-- handles fit their field of a word
module _ (f : Format) (bs : List Bool) (narrow : f.handle_bits ≤ 32) where
  handle-low : (q : ℕ) → handle_at f bs q < 2 ^ 32
  handle-low q = lt_of_lt_of_le (number-at-low bs f.handle_bits (q + 32)) (pow_mono narrow)

  bindings-again : (n q : ℕ) → map binding_of (map bind_word (bindings_at f bs n q)) ≡ bindings_at f bs n q
  unfolding bindings_at
  bindings-again zero q = refl
  bindings-again (suc n) q = ap₂ {C = List Binding} ◌∷◌ (binding-back (record { segment = segment_number (number_at bs 32 q); handle = handle_at f bs q }) (handle-low q)) (bindings-again n (q + binding_bits f))

  bound-again : (n q : ℕ) → map binding_of (map bind_word (bound_at f bs n q)) ≡ bound_at f bs n q
  unfolding bound_at
  bound-again zero q = refl
  bound-again (suc n) q =
      rw (map-append bind_word (bindings_at f bs (count_at bs q) (q + 10)) (bound_at f bs n (after f bs q)), map-append binding_of (map bind_word (bindings_at f bs (count_at bs q) (q + 10))) (map bind_word (bound_at f bs n (after f bs q))), bindings-again (count_at bs q) (q + 10), bound-again n (after f bs q))

pub length-objects_at : (bs : List Bool) (n p : ℕ) → length (objects_at bs n p) ≡ n
unfolding objects_at
length-objects_at bs zero p = refl
length-objects_at bs (suc n) p = ap suc (length-objects_at bs n (p + 64))

-- the root has been seen
pub root-low : (d limit : ℕ) → suc d ≡ limit → set (set (lowest limit) 1 (0 + 1)) (1 + 1) 0 ≡ 0 ∷ 1 ∷ replicate (d + 1) 0
unfolding lowest
root-low d limit e = ap (λ (n : ℕ). set (set (replicate n 0) 1 (0 + 1)) (1 + 1) 0) (three d limit e) ∙ ap (λ (n : ℕ). 0 ∷ 1 ∷ replicate n 0) (sym (add-one d))
  where
    three : (d limit : ℕ) → suc d ≡ limit → limit + 2 ≡ suc (suc (suc d))
    three d limit e = omega arith

-- the tree of an image that passes: valid, and written as the words that were read
pub record Contents (f : Format) (m : Limits) (bs : List Bool) : Type 0 where
  pub whole : Whole m (tree_in f bs)
  pub levels : flat 1 (tree_in f bs).levels ≡ all_words f bs (levels_in bs)
  pub bindings : bound (tree_in f bs).levels ≡ bound_at f bs (suc (levels_in bs)) (bindings_place f (levels_in bs))
  pub objects : length (tree_in f bs).objects ≡ objects_in bs

module _ (f : Format) (m : Limits) (bs : List Bool) (deep : suc f.deepest ≡ m.components) (narrow : f.handle_bits ≤ 32) (hm : m.objects ≤ 2 ^ 32)
    (hl : levels_in bs < m.levels) (hb : bindings_in bs ≤ m.bindings) (ho : objects_in bs ≤ m.objects)
    (lv : first (levels_checks f bs (levels_in bs) header_bits 0 (root_seen f)) ≡ gives tt)
    (bd : first (bound_checks f bs (objects_in bs) (levels_in bs) header_bits (bindings_place f (levels_in bs)) 0 (bindings_in bs)) ≡ gives tt) where
  abbrev N : ℕ
  N = levels_in bs

  abbrev Q : ℕ
  Q = bindings_place f N

  abbrev W : List ℕ
  W = all_words f bs N

  abbrev D : List Binding
  D = bound_at f bs (suc N) Q

  root-left : (n : ℕ) → first (bound_checks f bs (objects_in bs) n header_bits Q 0 (bindings_in bs)) ≡ gives tt
      → (last : Bool) × Opened f bs (objects_in bs) n header_bits Q 0 (bindings_in bs) last × Left f bs (objects_in bs) m.components deep (le_trans ho hm) n header_bits (after f bs Q) (bindings_in bs - count_at bs Q)
  root-left zero h = (true, open-last f bs (objects_in bs) header_bits Q 0 (bindings_in bs) h, tt)
  root-left (suc n) h = let x = open_more f bs (objects_in bs) n header_bits Q 0 (bindings_in bs) h in (false, record { count = x.0.count; own = x.0.own; room = x.0.room }, x.1)

  scanned : scan m.components (below (objects_in bs)) 0 (lowest m.components) W (map bind_word D) ≡ true
  unfolding all_words bound_at root_seen
  scanned =
      let o = root-left N bd in
      own-scan f bs (objects_in bs) m.components deep (le_trans ho hm) 0 0 [] 0 0 1 0 Q (level_words f bs N header_bits (after f bs Q)) (bound_at f bs N (after f bs Q))
      (root-fit f bs (objects_in bs) m.components deep (le_trans ho hm) o.0 N header_bits Q (bindings_in bs) o.1) (omega arith) (lowest m.components) (low-at m.components 1)
      ∙ rw (root-low f.deepest m.components deep)
      (scan-levels f bs (objects_in bs) m.components deep (le_trans ho hm) N header_bits (after f bs Q) 0 (bindings_in bs - count_at bs Q) 0 (1 ∷ replicate (f.deepest + 1) 0) lv o.2)
    where
      low-at : (limit r : ℕ) → get_or (lowest limit) r 0 ≡ 0
      low-at limit r = unfold lowest in get_or-zeros (limit + 2) r

  good : Good m.components (below (objects_in bs)) 0 (lowest m.components) W (map bind_word D)
  good = sound m.components (below (objects_in bs)) W 0 (lowest m.components) (map bind_word D) (unfold lowest in length-replicate {A = ℕ} (m.components + 2) 0) scanned

  abbrev F : Forest
  F = (tree_in f bs).levels

  forest-is : sibs 1 W (map bind_word D) ≡ F
  unfolding sibs tree_in
  forest-is = rw (bound-again f bs narrow (suc N) Q)

  words_are : flat 1 F ≡ W
  unfolding unwind
  words_are =
      sym (no-spare W (flat 1 F) good.spare
      (good.words ∙ rw (append-nil (flat 1 (sibs 1 W (map bind_word D))), forest-is))
      (λ k l e. omega (arith, all-ranked f bs N k (rw (length-all_words f bs N) at l))))

  valid-forest-is : Valid m.components (below (objects_in bs)) 1 0 F
  valid-forest-is = subst (Valid m.components (below (objects_in bs)) 1 0) forest-is (rw (zero-low m.components) at (good.valid 1 (omega arith) (omega arith)))
    where
      zero-low : (limit : ℕ) → get_or (lowest limit) 1 0 ≡ 0
      zero-low limit = unfold lowest in get_or-zeros (limit + 2) 1

  bind-words : map bind_word D ≡ map bind_word (bound F)
  unfolding unwind_b
  bind-words =
      no-spare (map bind_word D) (map bind_word (bound F)) good.spare_b
      (good.binds ∙ rw (append-nil (bound (sibs 1 W (map bind_word D))), forest-is))
      (λ k l e. omega (arith, bound-words f bs (objects_in bs) N header_bits Q 0 (bindings_in bs) k bd (rw (length-map D bind_word) at l)))

  bound-are : bound F ≡ D
  bound-are =
      sym (bound-back m.components (below (objects_in bs)) 1 0 F (λ h e. omega (arith, ltb-true h (objects_in bs) e, ho, hm)) valid-forest-is)
      ∙ ap (map binding_of) (sym bind-words) ∙ bound-again f bs narrow (suc N) Q

  made-is : length (tree_in f bs).objects ≡ objects_in bs
  unfolding tree_in
  made-is = length-objects_at bs (objects_in bs) (objects_place f N (bindings_in bs))

  pub contents : Contents f m bs
  contents =
      record {
        whole =
            record {
              rooted = some-root F words_are;
              forest = subst (λ (k : ℕ). Valid m.components (below k) 1 0 F) (sym made-is) valid-forest-is;
              levels = rw (words_are, length-all_words f bs N) hl;
              bindings = rw (bound-are, bound-count f bs (objects_in bs) N header_bits Q 0 (bindings_in bs) bd) hb;
              objects = rw made-is ho;
            };
        levels = words_are;
        bindings = bound-are;
        objects = made-is;
      }
    where
      flat-none : flat 1 none ≡ []
      flat-none = unfold flat in refl

      some-root : (G : Forest) → flat 1 G ≡ W → some G ≡ true
      some-root none e = absurd (omega (arith, ap length (sym flat-none ∙ e), length-all_words f bs N))
      some-root (level s t b kids next) e = refl

-- the words that were read are the tree's memory
pub loaded-is : (f : Format) (m : Limits) (bs : List Bool) → Contents f m bs → loaded f m bs ≡ encode m (tree_in f bs)
unfolding loaded encode
loaded-is f m bs c =
    rw (c.levels, c.bindings, c.objects)
    (unfold tree_in in refl)
