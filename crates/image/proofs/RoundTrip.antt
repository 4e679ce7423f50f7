-- Reading what was written gives the tree back, with nothing left.
use mathlib.Core.Path.{◌≡◌, refl, ap, ap₂, sym, subst, ◌∙◌}
use mathlib.Core.Bool.{Bool, true, false, not, ◌||◌}
use mathlib.Core.List.{List, [], ◌∷◌, ◌++◌, append_assoc, append-nil, map}
use Prim.Native.Nat.{ℕ, suc, ◌+◌, ◌-◌, ◌*◌, ◌^◌, ◌<◌, ◌≤◌}
use native.Mathlib.Omega.{arith}
use lib.Dec.{leb, eqb}
use lib.ListN.{length, take, drop, get_or, replicate, length-append, length-drop, length-map, length-replicate}
use lib.Seq.{take_all, drop_at, drop-drop, length-take-le, take-add}
use native.Mathlib.Nat.{le_trans, add-mul, zero-mod}
use borrow.Author.Tests.{lt-ltb, le-ltb, le-leb, eq-eqb, eqb-true}
use Rattle.name_object.specs.Memory.{all_zero}
use Rattle.pkg_length.specs.Refusal.{gives}
use Rattle.pkg_length.proofs.Answers.{never, halves}
use Rattle.table.specs.Limits.{Limits, limits}
use Rattle.table.specs.Tree.{Binding, Forest, none, level, Tree, bound, is_live}
use Rattle.table.specs.Layout.{pack, rank_of, type_of, count_of, seg_of, bind_word, binding_of, flat}
use Rattle.table.specs.Memory.{siblings}
use Rattle.table.specs.Inside.{below, scan, lowest, noted, counts}
use Rattle.table.specs.Valid.{some, rising, count_ok}
use Rattle.table.proofs.Facts.{get_or-zeros}
use Rattle.table.proofs.Shape.{Valid, level-tests}
use Rattle.table.proofs.Whole.{Whole, small-handles}
use Rattle.table.proofs.Memory.{bound-back}
use Rattle.table.proofs.Complete.{complete}
use Rattle.table.proofs.Decode.{siblings-flat}
use Rattle.table.proofs.Scan.{Passes, scan-true, taken}
use Rattle.table.proofs.Words.{map-take, map-drop, pack-unpack, rank-pack, type-pack, seg-pack}
use Rattle.image.specs.Bits.{spelled, bits, bits_in, number_of, number_at, bytes_for}
use Rattle.image.specs.Format.{Format, first_edition, header_bits, level_bits, binding_bits, bindings_place, objects_place, image_bits}
use Rattle.image.specs.Image.{image_fields, image, object_fields, binding_fields}
use Rattle.image.specs.Reader.{first, levels_in, bindings_in, objects_in, header_checks, levels_checks, root_seen, bound_checks, own_checks, count_checks, object_checks, end_checks, rest_checks, body_checks, image_checks, count_at, after, depth_at, level_words, bindings_at, bound_at, objects_at, all_words, tree_in, image_in}
use Rattle.image.specs.Inside.{words_fields, counted_fields, counts_fields, table_fields}
use Rattle.image.proofs.Fields.{number-bits}
use Rattle.image.proofs.Ink.{packed-bits, bits-zero}
use Rattle.image.proofs.Checks.{first-append}
use Rattle.image.proofs.Written.{spelled-append, length-words}
use Rattle.image.proofs.Contents.{root-low}
use Rattle.image.proofs.Rooms.{holds-count}
use Rattle.image.proofs.Laws.{fields-are, counts-bound, bits_are}
use Rattle.image.proofs.Saving.{Over, flat-over}
use Rattle.image.proofs.Reading.{FieldWritten, field-written, BindingsWritten, bindings-written, ObjectsWritten, objects-written, Words, LevelsWritten, levels-written, counted-bits}

-- the spelled fields of a table whose first level is the root
start-bits : (f : Format) (w : ℕ) (ws : List ℕ) (n : ℕ) (b : List Binding) (vs : List ℕ) (Z : List Bool)
    → spelled (table_fields f (w ∷ ws) n b vs) ++ Z
    ≡ bits 4 f.edition ++ (bits 8 (length ws) ++ (bits 10 n ++ (bits 10 (length vs) ++ (spelled (words_fields f ws) ++ (spelled (counted_fields f (w ∷ ws) b) ++ (spelled (object_fields vs) ++ Z))))))
unfolding table_fields
start-bits f w ws n b vs Z =
    ap (λ (l : List Bool). l ++ Z)
    (spelled-append (counts_fields f (suc (length ws) - 1) n (length vs)) (words_fields f ws ++ (counted_fields f (w ∷ ws) b ++ object_fields vs))
    ∙ ap₂ {C = List Bool} ◌++◌ (ap (λ (k : ℕ). spelled (counts_fields f k n (length vs))) (less (length ws)))
    (spelled-append (words_fields f ws) (counted_fields f (w ∷ ws) b ++ object_fields vs) ∙ ap (λ (l : List Bool). spelled (words_fields f ws) ++ l) (spelled-append (counted_fields f (w ∷ ws) b) (object_fields vs))))
    ∙ regroup (bits 4 f.edition) (bits 8 (length ws)) (bits 10 n) (bits 10 (length vs)) (spelled (words_fields f ws)) (spelled (counted_fields f (w ∷ ws) b)) (spelled (object_fields vs)) Z
    (four-bits f (length ws) n (length vs))
  where
    less : (k : ℕ) → suc k - 1 ≡ k
    less k = omega arith

    four-bits : (f : Format) (a b c : ℕ) → spelled (counts_fields f a b c) ≡ bits 4 f.edition ++ (bits 8 a ++ (bits 10 b ++ (bits 10 c ++ [])))
    four-bits f a b c = unfold counts_fields spelled in refl

    regroup : (a b c d e g h z : List Bool) {x : List Bool} → x ≡ a ++ (b ++ (c ++ (d ++ []))) → (x ++ (e ++ (g ++ h))) ++ z ≡ a ++ (b ++ (c ++ (d ++ (e ++ (g ++ (h ++ z))))))
    regroup a b c d e g h z q = rw q (simp (append_assoc, append-nil))

-- what the format and the limits must grant
pub record Room (f : Format) (m : Limits) : Type 0 where
  pub deep : suc f.deepest ≡ m.components
  pub narrow : f.deepest < 2 ^ f.depth_bits
  pub wide : m.objects ≤ 2 ^ f.handle_bits
  pub edition : f.edition < 16
  pub levels : m.levels ≤ 256
  pub bindings : m.bindings < 1024
  pub objects : m.objects < 1024

module _ (f : Format) (m : Limits) (g : Room f m) (t : Tree) (w : Whole m t) (vals : Words t.objects) (w₀ : ℕ) (ws : List ℕ) (root : flat 1 t.levels ≡ w₀ ∷ ws) (bs : List Bool) (z : ℕ)
    (start : bs ≡ bits 4 f.edition ++ (bits 8 (length ws) ++ (bits 10 (length (bound t.levels)) ++ (bits 10 (length t.objects) ++ (spelled (words_fields f ws) ++ (spelled (counted_fields f (w₀ ∷ ws) (bound t.levels)) ++ (spelled (object_fields t.objects) ++ replicate z false)))))))
    (rank : rank_of w₀ ≡ 1) (typ : type_of w₀ ≡ 0) (segment : seg_of w₀ ≡ 0) (over : Over 1 (w₀ ∷ ws)) where
  abbrev b : List Binding
  b = bound t.levels

  abbrev made : ℕ
  made = length t.objects

  few : suc (length ws) ≤ m.levels
  few = subst (λ (n : ℕ). n ≤ m.levels) (ap length root) w.levels

  abbrev tail : List Bool
  tail = spelled (object_fields t.objects) ++ replicate z false

  abbrev mid : List Bool
  mid = spelled (counted_fields f (w₀ ∷ ws) b) ++ tail

  abbrev R₄ : List Bool
  R₄ = spelled (words_fields f ws) ++ mid

  abbrev R₃ : List Bool
  R₃ = bits 10 made ++ R₄

  abbrev R₂ : List Bool
  R₂ = bits 10 (length b) ++ R₃

  abbrev R₁ : List Bool
  R₁ = bits 8 (length ws) ++ R₂

  x₁ : FieldWritten bs 0 4 f.edition R₁
  x₁ = field-written bs 0 4 f.edition R₁ (omega arith) g.edition start

  x₂ : FieldWritten bs 4 8 (length ws) R₂
  x₂ = field-written bs 4 8 (length ws) R₂ x₁.room (omega (arith, few, g.levels)) x₁.rest

  x₃ : FieldWritten bs 12 10 (length b) R₃
  x₃ = field-written bs 12 10 (length b) R₃ x₂.room (omega (arith, w.bindings, g.bindings)) x₂.rest

  x₄ : FieldWritten bs 22 10 made R₄
  x₄ = field-written bs 22 10 made R₄ x₃.room (omega (arith, w.objects, g.objects)) x₃.rest

  pub header-holds-all : first (header_checks f m bs) ≡ gives tt
  unfolding first header_checks
  header-holds-all =
      rw (
        le-leb 4 (length bs) x₁.room,
        eq-eqb (number_at bs 4 0) f.edition x₁.value,
        le-leb 12 (length bs) x₂.room,
        lt-ltb (levels_in bs) m.levels (rw x₂.value few),
        le-leb 22 (length bs) x₃.room,
        le-leb (bindings_in bs) m.bindings (rw x₃.value w.bindings),
        le-leb 32 (length bs) x₄.room,
        le-leb (objects_in bs) m.objects (rw x₄.value w.objects),
      )

  abbrev Q : ℕ
  Q = bindings_place f (length ws)

  at-Q : drop Q bs ≡ mid
  at-Q = sym (drop-drop (length ws * level_bits f) 32 bs) ∙ ap (drop (length ws * level_bits f)) x₄.rest ∙ drop_at (spelled (words_fields f ws)) mid (length ws * level_bits f) (length-words f ws)

  Q-room : Q ≤ length bs
  Q-room = within (length bs) (length ws * level_bits f) (length mid) (sym (length-drop 32 bs) ∙ ap length x₄.rest ∙ length-append (spelled (words_fields f ws)) mid ∙ ap (λ (k : ℕ). k + length mid) (length-words f ws)) x₄.room
    where
      within : (l a c : ℕ) → l - 32 ≡ a + c → 32 ≤ l → 32 + a ≤ l
      within l a c e h = omega arith

  hm : m.objects ≤ 2 ^ 32
  hm = omega (arith, g.objects)

  wide : made ≤ 2 ^ f.handle_bits
  wide = le_trans w.objects g.wide

  scanned : scan m.components (below made) 0 (lowest m.components) (w₀ ∷ ws) (map bind_word b) ≡ true
  scanned =
      let a = complete m.components (is_live t) (small-handles m t w hm) t.levels 1 0 0 (lowest m.components) [] [] w.forest (unfold lowest in length-replicate {A = ℕ} (m.components + 2) 0) (omega arith) (unfold lowest in get_or-zeros (m.components + 2) 1) in
      ap₂ (λ (l k : List ℕ). scan m.components (below made) 0 (lowest m.components) l k) (sym root ∙ sym (append-nil (flat 1 t.levels))) (sym (append-nil (map bind_word b)))
      ∙ a.goes ∙ ended a.rank a.seen
    where
      ended : (r : ℕ) (low : List ℕ) → scan m.components (below made) r low [] [] ≡ true
      ended r low = unfold scan all_zero in refl

  pass : Passes m.components (below made) 0 (lowest m.components) w₀ (map bind_word b) × (scan m.components (below made) (rank_of w₀) (noted (lowest m.components) w₀) ws (drop (count_of w₀) (map bind_word b)) ≡ true)
  pass = scan-true m.components (below made) 0 (lowest m.components) w₀ ws (map bind_word b) (λ e. omega (arith, over.0)) scanned

  small : map binding_of (map bind_word b) ≡ b
  small = bound-back m.components (is_live t) 1 0 t.levels (small-handles m t w hm) w.forest

  abbrev c₀ : ℕ
  c₀ = count_of w₀

  held : c₀ ≤ length b
  held = rw (length-map b bind_word) at pass.0.held

  ordered : rising (below made) 0 (take c₀ b) ≡ true
  ordered = subst (λ (l : List Binding). rising (below made) 0 l ≡ true) (map-take binding_of c₀ (map bind_word b) ∙ ap (take c₀) small) pass.0.fits.ordered

  none_deep : 0 ≡ f.deepest → c₀ ≡ 0
  none_deep e = zero-count (rank_of w₀) c₀ (reach e) (subst (λ (n : ℕ). count_ok m.components (rank_of w₀) n ≡ true) (taken c₀ (map bind_word b) pass.0.held) (level-tests m.components (rank_of w₀) _ (seg_of w₀) (type_of w₀) _ pass.0.fits.ok).counted)
    where
      reach : 0 ≡ f.deepest → m.components ≤ rank_of w₀
      reach e = omega (arith, rank, g.deep)

      zero-count : (r n : ℕ) → m.components ≤ r → count_ok m.components r n ≡ true → n ≡ 0
      zero-count r n l h = eqb-true n 0 (rw (le-ltb r m.components l) at h)

  deep-holds : (not (eqb 0 f.deepest) || eqb c₀ 0) ≡ true
  deep-holds = go (eqb 0 f.deepest) refl
    where
      go : (x : Bool) → eqb 0 f.deepest ≡ x → (not x || eqb c₀ 0) ≡ true
      go true e = eq-eqb c₀ 0 (none_deep (eqb-true 0 f.deepest e))
      go false e = refl

  k : FieldWritten bs Q 10 c₀ (spelled (binding_fields f (take c₀ b)) ++ (spelled (counted_fields f ws (drop c₀ b)) ++ tail))
  k = field-written bs Q 10 c₀ _ Q-room (omega arith) (at-Q ∙ counted-bits f bs made m.components g.deep wide g.narrow w₀ ws b tail ∙ append_assoc (bits 10 c₀) (spelled (binding_fields f (take c₀ b))) (spelled (counted_fields f ws (drop c₀ b)) ++ tail))

  own : BindingsWritten f bs made c₀ (Q + 10) 0 (take c₀ b) (spelled (counted_fields f ws (drop c₀ b)) ++ tail)
  own = subst (λ (n : ℕ). BindingsWritten f bs made n (Q + 10) 0 (take c₀ b) (spelled (counted_fields f ws (drop c₀ b)) ++ tail)) (length-take-le c₀ b held) (bindings-written f bs made wide (take c₀ b) (Q + 10) 0 _ k.room ordered k.rest)

  next : scan m.components (below made) 1 (0 ∷ root_seen f) ws (map bind_word (drop c₀ b)) ≡ true
  unfolding root_seen
  next = rw (map-drop bind_word c₀ b, ← root-low f.deepest m.components g.deep) (rw (rank, segment) at pass.1)

  root-one : 1 ≤ get_or (root_seen f) 0 0
  unfolding root_seen
  root-one = omega arith

  levels-all : LevelsWritten f bs made m.components g.deep wide g.narrow 32 (Q + 10 + c₀ * binding_bits f) 0 (root_seen f) ws (drop c₀ b) mid tail
  levels-all =
      levels-written f bs made m.components g.deep wide g.narrow ws 32 (Q + 10 + c₀ * binding_bits f) 0 0 (root_seen f) (drop c₀ b) mid tail x₄.room own.room over.1 root-one
      (rw (map-drop bind_word c₀ b, map-drop binding_of c₀ (map bind_word b), small)) next x₄.rest own.rest

  own_root : (last : Bool) (rest : ℕ) → c₀ ≤ rest → (not last || leb rest c₀) ≡ true → first (own_checks f bs made last Q 0 rest) ≡ gives tt
  unfolding own_checks
  own_root last rest h j =
      first-append (count_checks f bs last Q 0 rest) _
      ∙ rw (holds-count f bs last Q 0 rest (record { room = k.room; deep = rw k.value deep-holds; held = rw k.value h; full = rw k.value j }), k.value) own.checks

  after-root : after f bs Q ≡ Q + 10 + c₀ * binding_bits f
  after-root = rw k.value

  bound_all : (us : List ℕ) → LevelsWritten f bs made m.components g.deep wide g.narrow 32 (Q + 10 + c₀ * binding_bits f) 0 (root_seen f) us (drop c₀ b) mid tail
      → first (bound_checks f bs made (length us) 32 Q 0 (c₀ + counts us)) ≡ gives tt
  unfolding bound_checks counts
  bound_all [] l = own_root true (c₀ + 0) (omega arith) (le-leb (c₀ + 0) c₀ (omega arith))
  bound_all (u ∷ us) l =
      first-append (own_checks f bs made false Q 0 (c₀ + counts (u ∷ us))) _
      ∙ rw (own_root false (c₀ + counts (u ∷ us)) (omega arith) refl)
      (ap₂ (λ (q r : ℕ). first (bound_checks f bs made (length us) (32 + level_bits f) q (depth_at f bs 32) r)) after-root (ap (λ (c : ℕ). c₀ + counts (u ∷ us) - c) k.value ∙ left_over c₀ (counts (u ∷ us))) ∙ l.left)
    where
      left_over : (c n : ℕ) → c + n - c ≡ n
      left_over c n = omega arith

  all-counted : length b ≡ c₀ + counts ws
  unfolding counts
  all-counted = sym (counts-bound m.components (is_live t) 1 0 t.levels w.forest) ∙ ap counts root

  objects-place : Q + 10 + c₀ * binding_bits f + (length ws * 10 + counts ws * binding_bits f) ≡ objects_place f (length ws) (length b)
  objects-place = sums Q c₀ (counts ws) (length ws) (binding_bits f) (length b) all-counted
    where
      sums : (q c n l w t : ℕ) → t ≡ c + n → q + 10 + c * w + (l * 10 + n * w) ≡ q + (suc l * 10 + t * w)
      sums q c n l w t e = rw (e, add-mul c n w) (omega arith)

  objects-all : ObjectsWritten bs made (objects_place f (length ws) (length b)) t.objects (replicate z false)
  objects-all =
      objects-written bs t.objects (objects_place f (length ws) (length b)) (replicate z false) (subst (λ (p : ℕ). p ≤ length bs) objects-place levels-all.space) vals
      (ap (λ (p : ℕ). drop p bs) (sym objects-place) ∙ levels-all.more)

  abbrev E : ℕ
  E = image_bits f (length ws) (length b) made

  module _ (spare : z ≡ 8 * bytes_for E - E) where
    rest-long : length bs ≡ E + z
    rest-long = total (length bs) E z (sym (length-drop E bs) ∙ ap length objects-all.rest ∙ length-replicate {A = Bool} z false) objects-all.room
      where
        total : (l e z : ℕ) → l - e ≡ z → e ≤ l → l ≡ e + z
        total l e z d h = omega arith

    rest-zero : number_at bs (8 * bytes_for E - E) E ≡ 0
    rest-zero =
        ap (λ (l : List Bool). number_of (take (8 * bytes_for E - E) l)) objects-all.rest
        ∙ ap number_of (take_all (8 * bytes_for E - E) (replicate z false) (rw (length-replicate {A = Bool} z false) (omega (arith, spare))))
        ∙ ap number_of (sym (bits-zero z)) ∙ number-bits z 0 ∙ zero-mod (2 ^ z)

    ends : first (end_checks bs E) ≡ gives tt
    unfolding first end_checks
    ends = rw (eq-eqb (number_at bs (8 * bytes_for E - E) E) 0 rest-zero, le-leb (length bs) (8 * bytes_for E) (omega (arith, rest-long, spare)))

    pub checks-all : first (image_checks f m bs) ≡ gives tt
    unfolding image_checks body_checks rest_checks
    checks-all =
        first-append (header_checks f m bs) _
        ∙ rw (header-holds-all, x₂.value, x₃.value, x₄.value)
        (first-append (levels_checks f bs (length ws) header_bits 0 (root_seen f)) _
        ∙ rw levels-all.levels
        (first-append (bound_checks f bs made (length ws) header_bits Q 0 (length b)) _
        ∙ rw (ap (λ (n : ℕ). first (bound_checks f bs made (length ws) header_bits Q 0 n)) all-counted ∙ bound_all ws levels-all)
        (first-append (object_checks bs made (objects_place f (length ws) (length b))) _
        ∙ rw objects-all.checks ends)))

  root-word : pack 1 0 (count_at bs Q) 0 ≡ w₀
  root-word = ap (λ (c : ℕ). pack 1 0 c 0) k.value ∙ sym (λ i. pack (rank i) (typ i) c₀ (segment i)) ∙ pack-unpack w₀

  words-all : all_words f bs (levels_in bs) ≡ flat 1 t.levels
  unfolding all_words
  words-all = rw x₂.value (ap₂ {C = List ℕ} ◌∷◌ root-word (ap (level_words f bs (length ws) header_bits) after-root ∙ levels-all.words) ∙ sym root)

  bindings-all : bound_at f bs (suc (levels_in bs)) (bindings_place f (levels_in bs)) ≡ b
  unfolding bound_at
  bindings-all =
      rw x₂.value
      (ap₂ {C = List Binding} ◌++◌ (ap (λ (c : ℕ). bindings_at f bs c (Q + 10)) k.value ∙ own.values) (ap (bound_at f bs (length ws)) after-root ∙ levels-all.bindings)
      ∙ sym (take-add c₀ (counts ws) b) ∙ ap (λ (n : ℕ). take n b) (sym all-counted) ∙ take_all (length b) b (omega arith))

  values-all : objects_at bs (objects_in bs) (objects_place f (levels_in bs) (bindings_in bs)) ≡ t.objects
  values-all = rw (x₂.value, x₃.value, x₄.value) objects-all.values

  levels-back : siblings 1 (flat 1 t.levels) b ≡ t.levels
  levels-back = ap₂ (siblings 1) (sym (append-nil (flat 1 t.levels))) (sym (append-nil b)) ∙ siblings-flat m.components (is_live t) 1 0 t.levels [] [] w.forest tt

  pub tree-back : tree_in f bs ≡ t
  unfolding tree_in
  tree-back = λ i. record { levels = (ap₂ (siblings 1) words-all bindings-all ∙ levels-back) i; objects = values-all i }

over-less : (n k : ℕ) (ws : List ℕ) → k ≤ n → Over n ws → Over k ws
over-less n k [] h o = tt
over-less n k (w ∷ ws) h o = (le_trans h o.0, over-less n k ws h o.1)

module _ (f : Format) (m : Limits) (g : Room f m) (t : Tree) (w : Whole m t) (vals : Words t.objects) where
  abbrev bits_of : List Bool
  bits_of = spelled (image_fields f t)

  image-bits : (w₀ : ℕ) (ws : List ℕ) → flat 1 t.levels ≡ w₀ ∷ ws
      → bits_in (image f t) ≡ bits 4 f.edition ++ (bits 8 (length ws) ++ (bits 10 (length (bound t.levels)) ++ (bits 10 (length t.objects) ++ (spelled (words_fields f ws) ++ (spelled (counted_fields f (w₀ ∷ ws) (bound t.levels)) ++ (spelled (object_fields t.objects) ++ replicate (8 * bytes_for (length bits_of) - length bits_of) false))))))
  unfolding image
  image-bits w₀ ws e =
      packed-bits bits_of
      ∙ ap (λ (l : List Bool). l ++ replicate (8 * bytes_for (length bits_of) - length bits_of) false)
      (ap spelled (sym (fields-are f m t [] w)) ∙ ap₂ (λ (l : List ℕ) (k : List Binding). spelled (table_fields f l (length (bound t.levels)) k t.objects)) e (append-nil (bound t.levels)))
      ∙ start-bits f w₀ ws (length (bound t.levels)) (bound t.levels) t.objects _

  spare-is : (w₀ : ℕ) (ws : List ℕ) → flat 1 t.levels ≡ w₀ ∷ ws
      → 8 * bytes_for (length bits_of) - length bits_of ≡ 8 * bytes_for (image_bits f (length ws) (length (bound t.levels)) (length t.objects)) - image_bits f (length ws) (length (bound t.levels)) (length t.objects)
  spare-is w₀ ws e = ap (λ (n : ℕ). 8 * bytes_for n - n) (bits_are f m t w ∙ ap (λ (n : ℕ). image_bits f n (length (bound t.levels)) (length t.objects)) (ap (λ (l : List ℕ). length l - 1) e ∙ less (length ws)))
    where
      less : (k : ℕ) → suc k - 1 ≡ k
      less k = omega arith

  rooted : (F : Forest) → t.levels ≡ F → some F ≡ true → image_in f m (image f t) ≡ gives t
  unfolding image_in
  rooted none e h = never h
  rooted (level s ty b kids next) e h =
      let v : Valid m.components (is_live t) 1 0 (level s ty b kids next) = subst (Valid m.components (is_live t) 1 0) e w.forest in
      let r : flat 1 t.levels ≡ pack 1 ty (length b) s ∷ (flat 2 kids ++ flat 1 next) = ap (flat 1) e ∙ opened s ty b kids next in
      let n = halves (eqb s 0) (eqb ty 0) (level-tests m.components 1 0 s ty (length b) v.0.ok).named in
      let rk = rank-pack 1 ty (length b) s v.0.small v.0.few v.0.fits in
      let tk = type-pack 1 ty (length b) s v.0.small v.0.few v.0.fits ∙ eqb-true ty 0 n.1 in
      let sk = seg-pack 1 ty (length b) s v.0.small v.0.few v.0.fits ∙ eqb-true s 0 n.0 in
      let o : Over 1 (pack 1 ty (length b) s ∷ (flat 2 kids ++ flat 1 next)) = subst (Over 1) r (over-less (2 ^ 45) 1 (flat 1 t.levels) (omega arith) (flat-over m.components (is_live t) 1 0 t.levels w.forest)) in
      rw (
        checks-all f m g t w vals (pack 1 ty (length b) s) (flat 2 kids ++ flat 1 next) r (bits_in (image f t)) (8 * bytes_for (length (spelled (image_fields f t))) - length (spelled (image_fields f t))) (image-bits (pack 1 ty (length b) s) (flat 2 kids ++ flat 1 next) r) rk tk sk o (spare-is (pack 1 ty (length b) s) (flat 2 kids ++ flat 1 next) r),
        tree-back f m g t w vals (pack 1 ty (length b) s) (flat 2 kids ++ flat 1 next) r (bits_in (image f t)) (8 * bytes_for (length (spelled (image_fields f t))) - length (spelled (image_fields f t))) (image-bits (pack 1 ty (length b) s) (flat 2 kids ++ flat 1 next) r) rk tk sk o,
      )
    where
      opened : (s ty : ℕ) (b : List Binding) (kids next : Forest) → flat 1 (level s ty b kids next) ≡ pack 1 ty (length b) s ∷ (flat 2 kids ++ flat 1 next)
      opened s ty b kids next = unfold flat in refl

  -- reading what was written gives the tree back, with nothing left
  pub read-of-image : image_in f m (image f t) ≡ gives t
  read-of-image = rooted t.levels refl w.rooted

-- the first edition has room for what a table holds
pub first-edition-room : Room first_edition limits
first-edition-room =
    record { deep = refl; narrow = omega arith; wide = omega arith; edition = omega arith; levels = omega arith; bindings = omega arith; objects = omega arith }
