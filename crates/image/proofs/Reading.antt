-- What was written is read back: each field is where the reader looks for it, and the table's own test of the words grants every check.
use mathlib.Core.Path.{◌≡◌, refl, ap, ap₂, sym, subst, ◌∙◌}
use mathlib.Core.Bool.{Bool, true, false, not, ◌||◌}
use mathlib.Core.List.{List, [], ◌∷◌, ◌++◌, append_assoc, append-nil, map}
use mathlib.Core.Logic.{⊎_elim}
use Prim.Native.Nat.{ℕ, zero, suc, ◌+◌, ◌-◌, ◌*◌, ◌/◌, ◌%◌, ◌^◌, ◌<◌, ◌≤◌}
use native.Mathlib.Omega.{arith}
use native.Mathlib.Nat.{suc-mul, add-mul, suc-add, mod-eq_of_lt}
use native.Mathlib.Numerals.{add-one}
use lib.Dec.{leb, ltb, eqb}
use lib.ListN.{length, take, drop, get_or, set, length-append, length-drop, length-map}
use lib.Seq.{take_at, drop_at, drop-drop, length-take-le, take-add, get_or-set_other}
use borrow.Author.Tests.{lt-ltb, le-ltb, le-leb, ltb-true, eqb-true, ne_eqb, eq-eqb}
use Rattle.pkg_length.specs.Refusal.{gives}
use Rattle.pkg_length.proofs.Answers.{halves}
use Rattle.table.specs.Tree.{Binding}
use Rattle.table.specs.Levels.{char_of_number}
use Rattle.table.specs.Layout.{rank_of, type_of, count_of, seg_of, bind_word, binding_of}
use Rattle.table.specs.Valid.{segment_ok, rising, name_ok, count_ok}
use Rattle.table.proofs.Scan.{Passes, taken, scan-true}
use Rattle.table.proofs.Words.{map-take, map-drop, pack-unpack}
use Rattle.table.specs.Inside.{below, scan, noted, counts}
use Rattle.table.proofs.Facts.{lt-or-le}
use Rattle.table.proofs.Numbers.{number-back}
use Rattle.table.proofs.Shape.{binding-tests, LevelTests, level-tests}
use Rattle.image.specs.Bits.{spelled, bits, number_of, number_at}
use Rattle.image.specs.Format.{Format, level_bits, binding_bits}
use Rattle.image.specs.Image.{bytes_of_segment, binding_fields, object_fields}
use Rattle.image.specs.Reader.{first, are_chars_ok, segment_number, depth_at, chars_at, levels_checks, level_checks, seen, binding_checks, bindings_checks, bindings_at, object_checks, objects_at, count_at, count_checks, own_checks, bound_checks, after, word_of_level, level_words, bound_at}
use Rattle.image.specs.Inside.{fields_of_word, words_fields, counted_fields}
use Rattle.image.proofs.Fields.{length-bits, number-bits}
use Rattle.image.proofs.Checks.{first-append}
use Rattle.image.proofs.Rooms.{holds-binding, LevelHolds, holds-level, level-room, holds-count}
use Rattle.image.proofs.Written.{spelled-append}
use Rattle.image.proofs.Saving.{Over}

-- a field where it was written
pub record FieldWritten (bs : List Bool) (p w v : ℕ) (C : List Bool) : Type 0 where
  pub value : number_at bs w p ≡ v
  pub room : p + w ≤ length bs
  pub rest : drop (p + w) bs ≡ C

pub field-written : (bs : List Bool) (p w v : ℕ) (C : List Bool) → p ≤ length bs → v < 2 ^ w → drop p bs ≡ bits w v ++ C → FieldWritten bs p w v C
field-written bs p w v C h l e =
    record {
      value = ap (λ (xs : List Bool). number_of (take w xs)) e ∙ rw (take_at (bits w v) C w (length-bits w v)) (number-bits w v ∙ mod-eq_of_lt l);
      room = omega (arith, sym (length-drop p bs) ∙ ap length e ∙ length-append (bits w v) C, length-bits w v);
      rest = sym (drop-drop w p bs) ∙ ap (drop w) e ∙ drop_at (bits w v) C w (length-bits w v);
    }

-- a segment's characters
char-byte : (n : ℕ) → char_of_number n < 256
unfolding char_of_number
char-byte n = ⊎_elim (λ l. rw (lt-ltb n 10 l) (omega arith)) (λ k. ⊎_elim (λ l. rw (le-ltb n 10 k, lt-ltb n 36 l) (omega arith)) (λ l. rw (le-ltb n 10 k, le-ltb n 36 l) (omega arith)) (lt-or-le n 36)) (lt-or-le n 10)

four_bytes : (a b c d : ℕ) → a < 256 → b < 256 → c < 256 → d < 256 → (v : ℕ) → v ≡ ((a * 256 + b) * 256 + c) * 256 + d → (v / 2 ^ 24 ≡ a) × (v / 2 ^ 16 % 256 ≡ b) × (v / 2 ^ 8 % 256 ≡ c) × (v % 256 ≡ d) × (v < 2 ^ 32)
four_bytes a b c d ha hb hc hd v e = (omega arith, omega arith, omega arith, omega arith, omega arith)

pub segment-written : (s : ℕ) → segment_ok s ≡ true → (bytes_of_segment s < 2 ^ 32) × (are_chars_ok (bytes_of_segment s) ≡ true) × (segment_number (bytes_of_segment s) ≡ s)
unfolding are_chars_ok segment_number
segment-written s h =
    let x = four_bytes (char_of_number (s / 37 / 37 / 37)) (char_of_number (s / 37 / 37 % 37)) (char_of_number (s / 37 % 37)) (char_of_number (s % 37)) (char-byte (s / 37 / 37 / 37)) (char-byte (s / 37 / 37 % 37)) (char-byte (s / 37 % 37)) (char-byte (s % 37)) (bytes_of_segment s) (spelled_out s) in
    let n = number-back s h in
    (x.4, rw (x.0, x.1, x.2, x.3) n.0, rw (x.0, x.1, x.2, x.3) n.1)
  where
    spelled_out : (s : ℕ) → bytes_of_segment s ≡ ((char_of_number (s / 37 / 37 / 37) * 256 + char_of_number (s / 37 / 37 % 37)) * 256 + char_of_number (s / 37 % 37)) * 256 + char_of_number (s % 37)
    spelled_out s = unfold bytes_of_segment in refl

-- a list of bindings
pub record BindingsWritten (f : Format) (bs : List Bool) (made n q lo : ℕ) (b : List Binding) (C : List Bool) : Type 0 where
  pub checks : first (bindings_checks f bs made n q lo) ≡ gives tt
  pub values : bindings_at f bs n q ≡ b
  pub room : q + n * binding_bits f ≤ length bs
  pub rest : drop (q + n * binding_bits f) bs ≡ C

module _ (f : Format) (bs : List Bool) (made : ℕ) (wide : made ≤ 2 ^ f.handle_bits) where
  on-from : (q w n : ℕ) → q + w + n * w ≡ q + suc n * w
  on-from q w n = rw (suc-mul n w) (omega arith)

  from-none : (q w : ℕ) → q + 0 * w ≡ q
  from-none q w = omega arith

  split-head : (b : Binding) (bd : List Binding) (C : List Bool) → spelled (binding_fields f (b ∷ bd)) ++ C ≡ bits 32 (bytes_of_segment b.segment) ++ (bits f.handle_bits b.handle ++ (spelled (binding_fields f bd) ++ C))
  unfolding binding_fields spelled
  split-head b bd C = append_assoc (bits 32 (bytes_of_segment b.segment)) (bits f.handle_bits b.handle ++ spelled (binding_fields f bd)) C ∙ ap (λ (l : List Bool). bits 32 (bytes_of_segment b.segment) ++ l) (append_assoc (bits f.handle_bits b.handle) (spelled (binding_fields f bd)) C)

  pub bindings-written : (b : List Binding) (q lo : ℕ) (C : List Bool) → q ≤ length bs → rising (below made) lo b ≡ true → drop q bs ≡ spelled (binding_fields f b) ++ C → BindingsWritten f bs made (length b) q lo b C
  unfolding bindings_checks bindings_at
  bindings-written [] q lo C h r e =
      record { checks = unfold first in refl; values = refl; room = rw (from-none q (binding_bits f)) h; rest = ap (λ (k : ℕ). drop k bs) (from-none q (binding_bits f)) ∙ e ∙ unfold binding_fields spelled in refl }
  bindings-written (b ∷ bd) q lo C h r e =
      let t = binding-tests (below made) lo b bd r in
      let s = segment-written b.segment t.named in
      let x = field-written bs q 32 (bytes_of_segment b.segment) _ h s.0 (e ∙ split-head b bd C) in
      let y = field-written bs (q + 32) f.handle_bits b.handle _ x.room (low b.handle t.alive) x.rest in
      let seg : segment_number (number_at bs 32 q) ≡ b.segment = ap segment_number x.value ∙ s.2 in
      let z = bindings-written bd (q + binding_bits f) (suc b.segment) C (omega (arith, y.room)) t.later (ap (λ (k : ℕ). drop k bs) (sum q f.handle_bits) ∙ y.rest) in
      let one = holds-binding f bs made q lo (record {
        segment = record { room = x.room; named = ap are_chars_ok x.value ∙ s.1; rises = rw seg t.rises };
        room = omega (arith, y.room);
        live = rw y.value (ltb-true b.handle made t.alive);
      }) in
      record {
        checks = first-append (binding_checks f bs made q lo) _ ∙ rw (one, seg, add-one b.segment) z.checks;
        values = ap₂ {C = List Binding} ◌∷◌ (same-binding seg y.value) z.values;
        room = rw (sym (on-from q (binding_bits f) (length bd))) z.room;
        rest = ap (λ (k : ℕ). drop k bs) (sym (on-from q (binding_bits f) (length bd))) ∙ z.rest;
      }
    where
      low : (h : ℕ) → below made h ≡ true → h < 2 ^ f.handle_bits
      low h e = omega (arith, ltb-true h made e, wide)

      sum : (q h : ℕ) → q + (32 + h) ≡ q + 32 + h
      sum q h = omega arith

      same-binding : {s t h g : ℕ} → s ≡ t → h ≡ g → ◌≡◌ {A = Binding} (record { segment = s; handle = h }) (record { segment = t; handle = g })
      same-binding e f = λ i. record { segment = e i; handle = f i }

-- objects
pub record ObjectsWritten (bs : List Bool) (n p : ℕ) (vs : List ℕ) (C : List Bool) : Type 0 where
  pub checks : first (object_checks bs n p) ≡ gives tt
  pub values : objects_at bs n p ≡ vs
  pub room : p + n * 64 ≤ length bs
  pub rest : drop (p + n * 64) bs ≡ C

-- numbers of 64 bits
abbrev pub Words : List ℕ → Type 0
Words [] = Unit {0}
Words (v ∷ vs) = (v < 2 ^ 64) × Words vs

pub objects-written : (bs : List Bool) (vs : List ℕ) (p : ℕ) (C : List Bool) → p ≤ length bs → Words vs → drop p bs ≡ spelled (object_fields vs) ++ C → ObjectsWritten bs (length vs) p vs C
unfolding object_checks objects_at object_fields spelled first
objects-written bs [] p C h w e = record { checks = refl; values = refl; room = omega arith; rest = ap (λ (k : ℕ). drop k bs) (none p) ∙ e }
  where
    none : (p : ℕ) → p + 0 * 64 ≡ p
    none p = omega arith
objects-written bs (v ∷ vs) p C h w e =
    let x = field-written bs p 64 v (spelled (object_fields vs) ++ C) h w.0 (e ∙ append_assoc (bits 64 v) (spelled (object_fields vs)) C) in
    let y = objects-written bs vs (p + 64) C x.room w.1 x.rest in
    record {
      checks = rw (le-leb (p + 64) (length bs) x.room) y.checks;
      values = ap₂ {C = List ℕ} ◌∷◌ x.value y.values;
      room = omega (arith, y.room);
      rest = ap (λ (k : ℕ). drop k bs) (next p (length vs)) ∙ y.rest;
    }
  where
    next : (p n : ℕ) → p + suc n * 64 ≡ p + 64 + n * 64
    next p n = omega arith

-- A level, from the table's test of its word.
pub record LevelWritten (f : Format) (made limit d w : ℕ) (low : List ℕ) (b : List Binding) : Type 0 where
  pub depth : ℕ
  pub rank : rank_of w ≡ suc depth
  pub deeper : 0 < depth
  pub shallow : depth ≤ f.deepest
  pub step : depth ≤ d + 1
  pub typed : type_of w < 6
  pub named : segment_ok (seg_of w) ≡ true
  pub rises : get_or low depth 0 ≤ seg_of w
  pub deep : depth ≡ f.deepest → count_of w ≡ 0
  pub held : count_of w ≤ length b
  pub ordered : rising (below made) 0 (take (count_of w) b) ≡ true

module _ (f : Format) (made limit d x w : ℕ) (low : List ℕ) (b : List Binding) (deep : suc f.deepest ≡ limit) (small : map binding_of (map bind_word b) ≡ b) (seen : 1 ≤ get_or low 0 0)
    (h : Passes limit (below made) (suc d) (x ∷ low) w (map bind_word b)) where
  own-bindings : map binding_of (take (count_of w) (map bind_word b)) ≡ take (count_of w) b
  own-bindings = map-take binding_of (count_of w) (map bind_word b) ∙ ap (take (count_of w)) small

  many : length (map binding_of (take (count_of w) (map bind_word b))) ≡ count_of w
  many = taken (count_of w) (map bind_word b) h.held

  tests : LevelTests limit (rank_of w) (get_or (x ∷ low) (rank_of w) 0) (seg_of w) (type_of w) (count_of w)
  tests = subst (λ (n : ℕ). LevelTests limit (rank_of w) (get_or (x ∷ low) (rank_of w) 0) (seg_of w) (type_of w) n) many (level-tests limit (rank_of w) (get_or (x ∷ low) (rank_of w) 0) (seg_of w) (type_of w) _ h.fits.ok)

  name-parts : (r s t : ℕ) → (r ≡ 1 → ⊥) → name_ok r s t ≡ true → (segment_ok s ≡ true) × (t < 6)
  name-parts r s t n e = let g = halves (segment_ok s) (ltb t 6) (rw (ne_eqb r 1 n) at e) in (g.0, ltb-true t 6 g.1)

  zero-name : (r s t : ℕ) → r ≡ 1 → name_ok r s t ≡ true → s ≡ 0
  zero-name r s t n e = eqb-true s 0 (halves (eqb s 0) (eqb t 0) (rw (eq-eqb r 1 n) at e)).0

  root-no : rank_of w ≡ 1 → ⊥
  root-no e = omega (arith, zero-name (rank_of w) (seg_of w) (type_of w) e tests.named, subst (λ (r : ℕ). get_or (x ∷ low) r 0 ≤ seg_of w) e tests.rises, seen)

  none_deep : (r n : ℕ) → r ≡ limit → count_ok limit r n ≡ true → n ≡ 0
  none_deep r n e c = eqb-true n 0 (rw (le-ltb r limit (omega arith)) at c)

  pub level-written : LevelWritten f made limit d w low b
  level-written =
      let e : rank_of w ≡ suc (rank_of w - 1) = pred (rank_of w) tests.ranked in
      let g = name-parts (rank_of w) (seg_of w) (type_of w) root-no tests.named in
      record {
        depth = rank_of w - 1;
        rank = e;
        deeper = above (rank_of w) tests.ranked root-no;
        shallow = omega (arith, tests.shallow);
        step = omega (arith, h.step);
        typed = g.1;
        named = g.0;
        rises = subst (λ (r : ℕ). get_or (x ∷ low) r 0 ≤ seg_of w) e tests.rises;
        deep = λ z. none_deep (rank_of w) (count_of w) (omega (arith, tests.ranked)) tests.counted;
        held = rw (length-map b bind_word) at h.held;
        ordered = subst (λ (l : List Binding). rising (below made) 0 l ≡ true) own-bindings h.fits.ordered;
      }
    where
      pred : (n : ℕ) → 0 < n → n ≡ suc (n - 1)
      pred n h = omega arith

      above : (n : ℕ) → 0 < n → (n ≡ 1 → ⊥) → 0 < n - 1
      above n h k = ⊎_elim (λ l. omega arith) (λ l. absurd (k (omega arith))) (lt-or-le 1 n)

-- Levels one behind the other.
module _ (f : Format) (bs : List Bool) (made limit : ℕ) (deep : suc f.deepest ≡ limit) (wide : made ≤ 2 ^ f.handle_bits) (narrow : f.deepest < 2 ^ f.depth_bits) where
  abbrev Tail : ℕ → ℕ → ℕ → ℕ → Type 0
  Tail zero p q rest = Unit {0}
  Tail (suc n) p q rest = first (bound_checks f bs made n (p + level_bits f) q (depth_at f bs p) rest) ≡ gives tt

  pub record LevelsWritten (p q d : ℕ) (low ws : List ℕ) (b : List Binding) (C X : List Bool) : Type 0 where
    pub levels : first (levels_checks f bs (length ws) p d low) ≡ gives tt
    pub left : Tail (length ws) p q (counts ws)
    pub words : level_words f bs (length ws) p q ≡ ws
    pub bindings : bound_at f bs (length ws) q ≡ take (counts ws) b
    pub rest : drop (p + length ws * level_bits f) bs ≡ C
    pub more : drop (q + (length ws * 10 + counts ws * binding_bits f)) bs ≡ X
    pub room : p + length ws * level_bits f ≤ length bs
    pub space : q + (length ws * 10 + counts ws * binding_bits f) ≤ length bs

  -- one record and its bindings
  pub record OneWritten (p q d w : ℕ) (low : List ℕ) (b : List Binding) (C X : List Bool) : Type 0 where
    pub holds : LevelHolds f bs p d low
    pub at-depth : suc (depth_at f bs p) ≡ rank_of w
    pub segment : segment_number (chars_at f bs p) ≡ seg_of w
    pub word : word_of_level f bs p q ≡ w
    pub rest : drop (p + level_bits f) bs ≡ C
    pub count : count_at bs q ≡ count_of w
    pub shallow : (not (eqb (depth_at f bs p) f.deepest) || eqb (count_at bs q) 0) ≡ true
    pub first-room : q + 10 ≤ length bs
    pub own : BindingsWritten f bs made (count_of w) (q + 10) 0 (take (count_of w) b) X

  sum_level : (p h : ℕ) → p + (h + 35) ≡ p + h + 3 + 32
  sum_level p h = omega arith

  word-bits : (w : ℕ) (C : List Bool) → spelled (fields_of_word f w) ++ C ≡ bits f.depth_bits (rank_of w - 1) ++ (bits 3 (type_of w) ++ (bits 32 (bytes_of_segment (seg_of w)) ++ C))
  unfolding fields_of_word spelled
  word-bits w C = simp (append_assoc, append-nil)

  one_written : (p q d w : ℕ) (low : List ℕ) (b : List Binding) (C X : List Bool) → p ≤ length bs → q ≤ length bs → LevelWritten f made limit d w low b
      → drop p bs ≡ spelled (fields_of_word f w) ++ C → drop q bs ≡ (bits 10 (count_of w) ++ spelled (binding_fields f (take (count_of w) b))) ++ X → OneWritten p q d w low b C X
  unfolding word_of_level
  one_written p q d w low b C X hp hq l e g =
      let s = segment-written (seg_of w) l.named in
      let x = field-written bs p f.depth_bits (rank_of w - 1) _ hp (omega (arith, l.rank, l.shallow, narrow)) (e ∙ word-bits w C) in
      let y = field-written bs (p + f.depth_bits) 3 (type_of w) _ x.room (omega (arith, l.typed)) x.rest in
      let z = field-written bs (p + f.depth_bits + 3) 32 (bytes_of_segment (seg_of w)) _ y.room s.0 y.rest in
      let k = field-written bs q 10 (count_of w) _ hq (omega arith) (g ∙ append_assoc (bits 10 (count_of w)) (spelled (binding_fields f (take (count_of w) b))) X) in
      let n = length-take-le (count_of w) b l.held in
      let o = bindings-written f bs made wide (take (count_of w) b) (q + 10) 0 X k.room l.ordered k.rest in
      let dd : depth_at f bs p ≡ l.depth = x.value ∙ less (rank_of w) l.depth l.rank in
      let sg : segment_number (chars_at f bs p) ≡ seg_of w = ap segment_number z.value ∙ s.2 in
      record {
        holds = record {
          below = rw dd l.deeper;
          shallow = rw dd l.shallow;
          step = rw dd l.step;
          typed = rw y.value l.typed;
          segment = record { room = z.room; named = ap are_chars_ok z.value ∙ s.1; rises = rw (dd, sg) l.rises };
        };
        at-depth = ap suc dd ∙ sym l.rank;
        segment = sg;
        word = rw (ap suc dd ∙ sym l.rank, y.value, k.value, sg) (pack-unpack w);
        rest = ap (λ (j : ℕ). drop j bs) (sum_level p f.depth_bits) ∙ z.rest;
        count = k.value;
        shallow = rw (dd, k.value) (deep_none l.depth (count_of w) l.deep);
        first-room = k.room;
        own = subst (λ (j : ℕ). BindingsWritten f bs made j (q + 10) 0 (take (count_of w) b) X) n o;
      }
    where
      less : (r d : ℕ) → r ≡ suc d → r - 1 ≡ d
      less r d e = omega arith

      deep_none : (d n : ℕ) → (d ≡ f.deepest → n ≡ 0) → (not (eqb d f.deepest) || eqb n 0) ≡ true
      deep_none d n h = go (eqb d f.deepest) refl
        where
          go : (x : Bool) → eqb d f.deepest ≡ x → (not x || eqb n 0) ≡ true
          go true e = eq-eqb n 0 (h (eqb-true d f.deepest e))
          go false e = refl

  after-count : (q c : ℕ) → count_at bs q ≡ c → after f bs q ≡ q + 10 + c * binding_bits f
  after-count q c e = rw e

  words-bits : (w : ℕ) (ws : List ℕ) (C : List Bool) → spelled (words_fields f (w ∷ ws)) ++ C ≡ spelled (fields_of_word f w) ++ (spelled (words_fields f ws) ++ C)
  unfolding words_fields
  words-bits w ws C = ap (λ (l : List Bool). l ++ C) (spelled-append (fields_of_word f w) (words_fields f ws)) ∙ append_assoc (spelled (fields_of_word f w)) (spelled (words_fields f ws)) C

  pub counted-bits : (w : ℕ) (ws : List ℕ) (b : List Binding) (X : List Bool)
      → spelled (counted_fields f (w ∷ ws) b) ++ X ≡ (bits 10 (count_of w) ++ spelled (binding_fields f (take (count_of w) b))) ++ (spelled (counted_fields f ws (drop (count_of w) b)) ++ X)
  unfolding counted_fields spelled
  counted-bits w ws b X =
      ap (λ (l : List Bool). (bits 10 (count_of w) ++ l) ++ X) (spelled-append (binding_fields f (take (count_of w) b)) (counted_fields f ws (drop (count_of w) b)))
      ∙ regroup (bits 10 (count_of w)) (spelled (binding_fields f (take (count_of w) b))) (spelled (counted_fields f ws (drop (count_of w) b))) X
    where
      regroup : (a b c d : List Bool) → (a ++ (b ++ c)) ++ d ≡ (a ++ b) ++ (c ++ d)
      regroup a b c d = simp append_assoc

  -- the checks of a level's bindings, whether it is the last or not
  own-holds-all : (last : Bool) (p q d w rest : ℕ) (low : List ℕ) (b : List Binding) (C X : List Bool) → OneWritten p q d w low b C X → count_of w ≤ rest → (not last || leb rest (count_of w)) ≡ true
      → first (own_checks f bs made last q (depth_at f bs p) rest) ≡ gives tt
  unfolding own_checks
  own-holds-all last p q d w rest low b C X o h k =
      first-append (count_checks f bs last q (depth_at f bs p) rest) _
      ∙ rw (holds-count f bs last q (depth_at f bs p) rest (record { room = o.first-room; deep = o.shallow; held = rw o.count h; full = rw o.count k }), o.count) o.own.checks

  abbrev Next : ℕ → ℕ → ℕ → List ℕ → List ℕ → List Binding → List Bool → List Bool → Type 0
  Next p q w low ws b C X = LevelsWritten (p + level_bits f) (q + 10 + count_of w * binding_bits f) (depth_at f bs p) (seen low (depth_at f bs p) (segment_number (chars_at f bs p))) ws (drop (count_of w) b) C X

  tail-holds : (p q d w : ℕ) (low ws : List ℕ) (b : List Binding) (C X Y Z : List Bool) → OneWritten p q d w low b Z Y → Next p q w low ws b C X
      → first (bound_checks f bs made (length ws) (p + level_bits f) q (depth_at f bs p) (count_of w + counts ws)) ≡ gives tt
  unfolding bound_checks counts
  tail-holds p q d w low [] b C X Y Z o z = own-holds-all true p q d w (count_of w + 0) low b Z Y o (omega arith) (le-leb (count_of w + 0) (count_of w) (omega arith))
  tail-holds p q d w low (v ∷ vs) b C X Y Z o z =
      first-append (own_checks f bs made false q (depth_at f bs p) (count_of w + counts (v ∷ vs))) _
      ∙ rw (own-holds-all false p q d w (count_of w + counts (v ∷ vs)) low b Z Y o (omega arith) refl)
      (ap₂ (λ (q' r : ℕ). first (bound_checks f bs made (length vs) (p + level_bits f + level_bits f) q' (depth_at f bs (p + level_bits f)) r)) (after-count q (count_of w) o.count)
      (ap (λ (c : ℕ). count_of w + counts (v ∷ vs) - c) o.count ∙ left_over (count_of w) (counts (v ∷ vs))) ∙ z.left)
    where
      left_over : (c n : ℕ) → c + n - c ≡ n
      left_over c n = omega arith

  next_place : (p w n : ℕ) → p + suc n * w ≡ p + w + n * w
  next_place p w n = rw (suc-mul n w) (omega arith)

  next-own : (q c n k w : ℕ) → q + (suc n * 10 + (c + k) * w) ≡ q + 10 + c * w + (n * 10 + k * w)
  next-own q c n k w = rw (add-mul c k w) (omega arith)

  whole-written : (p q d w : ℕ) (low ws : List ℕ) (b : List Binding) (C X Y Z : List Bool) → OneWritten p q d w low b Z Y → Next p q w low ws b C X → LevelsWritten p q d low (w ∷ ws) b C X
  unfolding levels_checks level_words bound_at counts
  whole-written p q d w low ws b C X Y Z o z =
      let a = after-count q (count_of w) o.count in
      record {
        levels = first-append (level_checks f bs p d low) _ ∙ rw (holds-level f bs p d low o.holds) z.levels;
        left = tail-holds p q d w low ws b C X Y Z o z;
        words = ap₂ {C = List ℕ} ◌∷◌ o.word (ap (level_words f bs (length ws) (p + level_bits f)) a ∙ z.words);
        bindings = ap₂ {C = List Binding} ◌++◌ (ap (λ (c : ℕ). bindings_at f bs c (q + 10)) o.count ∙ o.own.values) (ap (bound_at f bs (length ws)) a ∙ z.bindings) ∙ sym (take-add (count_of w) (counts ws) b);
        rest = ap (λ (k : ℕ). drop k bs) (next_place p (level_bits f) (length ws)) ∙ z.rest;
        more = ap (λ (k : ℕ). drop k bs) (next-own q (count_of w) (length ws) (counts ws) (binding_bits f)) ∙ z.more;
        room = rw (next_place p (level_bits f) (length ws)) z.room;
        space = rw (next-own q (count_of w) (length ws) (counts ws) (binding_bits f)) z.space;
      }

  pub levels-written : (ws : List ℕ) (p q d x : ℕ) (low : List ℕ) (b : List Binding) (C X : List Bool) → p ≤ length bs → q ≤ length bs → Over 1 ws → 1 ≤ get_or low 0 0 → map binding_of (map bind_word b) ≡ b
      → scan limit (below made) (suc d) (x ∷ low) ws (map bind_word b) ≡ true → drop p bs ≡ spelled (words_fields f ws) ++ C → drop q bs ≡ spelled (counted_fields f ws b) ++ X → LevelsWritten p q d low ws b C X
  levels-written [] p q d x low b C X hp hq nz low0 small h e g = unfold words_fields counted_fields spelled counts levels_checks level_words bound_at first in
      record { levels = refl; left = tt; words = refl; bindings = refl; rest = ap (λ (k : ℕ). drop k bs) (none p (level_bits f)) ∙ e; more = ap (λ (k : ℕ). drop k bs) (none-own q (binding_bits f)) ∙ g; room = rw (none p (level_bits f)) hp; space = rw (none-own q (binding_bits f)) hq }
    where
      none : (p w : ℕ) → p + 0 * w ≡ p
      none p w = omega arith

      none-own : (q w : ℕ) → q + (0 * 10 + 0 * w) ≡ q
      none-own q w = omega arith
  levels-written (w ∷ ws) p q d x low b C X hp hq nz low0 small h e g =
      let t = scan-true limit (below made) (suc d) (x ∷ low) w ws (map bind_word b) (λ z. omega (arith, nz.0)) h in
      let l = level-written f made limit d x w low b deep small low0 t.0 in
      let o = one_written p q d w low b _ _ hp hq l (e ∙ words-bits w ws C) (g ∙ counted-bits w ws b X) in
      let dd : rank_of w ≡ suc (depth_at f bs p) = sym o.at-depth in
      let z = levels-written ws (p + level_bits f) (q + 10 + count_of w * binding_bits f) (depth_at f bs p) x (seen low (depth_at f bs p) (segment_number (chars_at f bs p))) (drop (count_of w) b) C X
      (level-room f bs p d low o.holds) o.own.room nz.1 (still low (depth_at f bs p) (segment_number (chars_at f bs p)) o.holds.below low0) (dropped (count_of w) b small)
      (next-scan p w ws low b dd o.segment t.1) o.rest o.own.rest in
      whole-written p q d w low ws b C X _ _ o z
    where
      still : (low : List ℕ) (d s : ℕ) → 0 < d → 1 ≤ get_or low 0 0 → 1 ≤ get_or (seen low d s) 0 0
      still low d s h k = rw (get_or-set_other (set low d (s + 1)) (d + 1) 0 0 0 (λ z. omega arith), get_or-set_other low d 0 (s + 1) 0 (λ z. omega arith)) k

      dropped : (c : ℕ) (b : List Binding) → map binding_of (map bind_word b) ≡ b → map binding_of (map bind_word (drop c b)) ≡ drop c b
      dropped c b e = rw (map-drop bind_word c b, map-drop binding_of c (map bind_word b), e)

      next-scan : (p w : ℕ) (ws low : List ℕ) (b : List Binding) → rank_of w ≡ suc (depth_at f bs p) → segment_number (chars_at f bs p) ≡ seg_of w
          → scan limit (below made) (rank_of w) (noted (x ∷ low) w) ws (drop (count_of w) (map bind_word b)) ≡ true
          → scan limit (below made) (suc (depth_at f bs p)) (x ∷ seen low (depth_at f bs p) (segment_number (chars_at f bs p))) ws (map bind_word (drop (count_of w) b)) ≡ true
      next-scan p w ws low b e s h = rw (map-drop bind_word (count_of w) b, s) (rw (e, suc-add (depth_at f bs p) 1) at h)
