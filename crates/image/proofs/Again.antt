-- An image that passes is spelled by what was read of it: field by field the bits are those of the number they spell.
use mathlib.Core.Path.{◌≡◌, ap, ap₂, sym, ◌∙◌}
use mathlib.Core.Bool.{Bool, true, false}
use mathlib.Core.List.{List, [], ◌∷◌, ◌++◌, append_assoc, append-nil}
use Prim.Native.Nat.{ℕ, zero, suc, ◌+◌, ◌-◌, ◌*◌, ◌/◌, ◌%◌, ◌^◌, ◌<◌, ◌≤◌}
use native.Mathlib.Omega.{arith}
use native.Mathlib.Nat.{suc-mul, add-mul}
use lib.ListN.{length, take, drop, length-drop, take-append-drop}
use lib.Seq.{take_at, drop_at, drop-drop, length-take-le}
use borrow.Author.Tests.{leb-true}
use Rattle.pkg_length.specs.Refusal.{gives}
use Rattle.table.specs.Tree.{Binding, number}
use Rattle.table.specs.Levels.{char_of_number}
use Rattle.table.specs.Layout.{count_of}
use Rattle.table.proofs.Numbers.{segment_of, segment-back}
use Rattle.table.proofs.Words.{rank-pack, type-pack, count-pack, seg-pack}
use Rattle.image.specs.Bits.{field, spelled, bits, number_at}
use Rattle.image.specs.Format.{Format, level_bits, binding_bits}
use Rattle.image.specs.Image.{bytes_of_segment, binding_fields, object_fields}
use Rattle.image.specs.Reader.{first, are_chars_ok, segment_number, depth_at, type_at, chars_at, level_checks, levels_checks, handle_at, binding_checks, bindings_checks, count_at, bound_checks, after, word_of_level, level_words, bindings_at, bound_at, object_checks, objects_at}
use Rattle.image.specs.Inside.{fields_of_word, words_fields, counted_fields}
use Rattle.image.proofs.Fields.{bits-number, number-at-low}
use Rattle.image.proofs.Checks.{head-holds, both_first, segment-number-low}
use Rattle.image.proofs.Rooms.{LevelHolds, level_holds, binding-holds, Opened, open-last, open_more, length-bindings_at, all_left}
use Rattle.image.proofs.Written.{spelled-append}

-- a field that is there
pub field-here : (bs : List Bool) (p w : ℕ) → p + w ≤ length bs → drop p bs ≡ bits w (number_at bs w p) ++ drop (p + w) bs
field-here bs p w h =
    sym (take-append-drop w (drop p bs))
    ∙ ap₂ {C = List Bool} ◌++◌ (sym (bits-number (take w (drop p bs)) w (length-take-le w (drop p bs) (rw (length-drop p bs) (omega arith))))) (drop-drop w p bs)

-- a segment's characters come back from its number
pub segment-again : (v : ℕ) → v < 2 ^ 32 → are_chars_ok v ≡ true → bytes_of_segment (segment_number v) ≡ v
unfolding are_chars_ok segment_number bytes_of_segment segment_of
segment-again v h k =
    let a = v / 2 ^ 24 in
    let b = v / 2 ^ 16 % 256 in
    let c = v / 2 ^ 8 % 256 in
    let d = v % 256 in
    let e = segment-back (v / 2 ^ 24) (v / 2 ^ 16 % 256) (v / 2 ^ 8 % 256) (v % 256) k in
    let s = number (v / 2 ^ 24) (v / 2 ^ 16 % 256) (v / 2 ^ 8 % 256) (v % 256) in
    let e₁ : char_of_number (s / 37 / 37 / 37) ≡ v / 2 ^ 24 = cc in
    let e₂ : char_of_number (s / 37 / 37 % 37) ≡ v / 2 ^ 16 % 256 = cc in
    let e₃ : char_of_number (s / 37 % 37) ≡ v / 2 ^ 8 % 256 = cc in
    let e₄ : char_of_number (s % 37) ≡ v % 256 = cc in
    rw (e₁, e₂, e₃, e₄) (omega arith)

-- a level's word has its fields
module _ (f : Format) (bs : List Bool) (p q : ℕ) where
  t-low : type_at f bs p < 8
  t-low = number-at-low bs 3 (p + f.depth_bits)

  c-low : count_at bs q < 1024
  c-low = number-at-low bs 10 q

  s-low : segment_number (chars_at f bs p) < 2 ^ 32
  s-low = omega (arith, segment-number-low (chars_at f bs p))

  pub word_count : count_of (word_of_level f bs p q) ≡ count_at bs q
  unfolding word_of_level
  word_count = count-pack (suc (depth_at f bs p)) (type_at f bs p) (count_at bs q) (segment_number (chars_at f bs p)) t-low c-low s-low

-- a level's record
module _ (f : Format) (bs : List Bool) (p q before : ℕ) (low : List ℕ) (l : LevelHolds f bs p before low) where
  less : (d : ℕ) → suc d - 1 ≡ d
  less d = omega arith

  word_fields : fields_of_word f (word_of_level f bs p q) ≡ field f.depth_bits (depth_at f bs p) ∷ field 3 (type_at f bs p) ∷ field 32 (chars_at f bs p) ∷ []
  unfolding fields_of_word word_of_level
  word_fields =
      rw (
        rank-pack (suc (depth_at f bs p)) (type_at f bs p) (count_at bs q) (segment_number (chars_at f bs p)) (t-low f bs p q) (c-low f bs p q) (s-low f bs p q),
        type-pack (suc (depth_at f bs p)) (type_at f bs p) (count_at bs q) (segment_number (chars_at f bs p)) (t-low f bs p q) (c-low f bs p q) (s-low f bs p q),
        seg-pack (suc (depth_at f bs p)) (type_at f bs p) (count_at bs q) (segment_number (chars_at f bs p)) (t-low f bs p q) (c-low f bs p q) (s-low f bs p q),
        segment-again (chars_at f bs p) (number-at-low bs 32 (p + f.depth_bits + 3)) l.segment.named,
      )
      (ap (λ (k : ℕ). field f.depth_bits k ∷ field 3 (type_at f bs p) ∷ field 32 (chars_at f bs p) ∷ []) (less (depth_at f bs p)))

  level-again : drop p bs ≡ spelled (fields_of_word f (word_of_level f bs p q)) ++ drop (p + level_bits f) bs
  unfolding spelled
  level-again =
      let r = l.segment.room in
      field-here bs p f.depth_bits (omega arith)
      ∙ rw (field-here bs (p + f.depth_bits) 3 (omega arith), field-here bs (p + f.depth_bits + 3) 32 r, word_fields)
      (rw (
        append-nil (bits 32 (chars_at f bs p)),
        append_assoc (bits f.depth_bits (depth_at f bs p)) (bits 3 (type_at f bs p) ++ bits 32 (chars_at f bs p)) (drop (p + level_bits f) bs),
        append_assoc (bits 3 (type_at f bs p)) (bits 32 (chars_at f bs p)) (drop (p + level_bits f) bs),
      )
      (ap (λ (k : ℕ). bits f.depth_bits (depth_at f bs p) ++ (bits 3 (type_at f bs p) ++ (bits 32 (chars_at f bs p) ++ drop k bs))) (sum p f.depth_bits)))
    where
      sum : (p d : ℕ) → p + d + 3 + 32 ≡ p + (d + 35)
      sum p d = omega arith

on-from : (p w n : ℕ) → p + w + n * w ≡ p + suc n * w
on-from p w n = rw (suc-mul n w) (omega arith)

from-none : (p w : ℕ) → p ≡ p + 0 * w
from-none p w = omega arith

pub levels-again : (f : Format) (bs : List Bool) (n p q before : ℕ) (low : List ℕ) → first (levels_checks f bs n p before low) ≡ gives tt
    → drop p bs ≡ spelled (words_fields f (level_words f bs n p q)) ++ drop (p + n * level_bits f) bs
unfolding levels_checks level_words words_fields
levels-again f bs zero p q before low h = unfold spelled in ap (λ (k : ℕ). drop k bs) (from-none p (level_bits f))
levels-again f bs (suc n) p q before low h =
    let x = both_first (level_checks f bs p before low) _ h in
    let l = level_holds f bs p before low x.0 in
    level-again f bs p q before low l
    ∙ rw (levels-again f bs n (p + level_bits f) (after f bs q) _ _ x.1, spelled-append (fields_of_word f (word_of_level f bs p q)) (words_fields f (level_words f bs n (p + level_bits f) (after f bs q))))
    (sym (append_assoc (spelled (fields_of_word f (word_of_level f bs p q))) (spelled (words_fields f (level_words f bs n (p + level_bits f) (after f bs q)))) (drop (p + level_bits f + n * level_bits f) bs))
    ∙ ap (λ (k : ℕ). (spelled (fields_of_word f (word_of_level f bs p q)) ++ spelled (words_fields f (level_words f bs n (p + level_bits f) (after f bs q)))) ++ drop k bs) (on-from p (level_bits f) n))

binding-head : (f : Format) (bs : List Bool) (q : ℕ) (X : List Binding) → are_chars_ok (number_at bs 32 q) ≡ true
    → spelled (binding_fields f (record { segment = segment_number (number_at bs 32 q); handle = handle_at f bs q } ∷ X)) ≡ bits 32 (number_at bs 32 q) ++ (bits f.handle_bits (handle_at f bs q) ++ spelled (binding_fields f X))
unfolding binding_fields spelled
binding-head f bs q X h = ap (λ (v : ℕ). bits 32 v ++ (bits f.handle_bits (handle_at f bs q) ++ spelled (binding_fields f X))) (segment-again (number_at bs 32 q) (number-at-low bs 32 q) h)

regroup : (a b c d : List Bool) → a ++ (b ++ (c ++ d)) ≡ (a ++ (b ++ c)) ++ d
regroup a b c d = sym (append_assoc a (b ++ c) d ∙ ap (λ (l : List Bool). a ++ l) (append_assoc b c d))

pub bindings-again : (f : Format) (bs : List Bool) (made n q lo : ℕ) → first (bindings_checks f bs made n q lo) ≡ gives tt
    → drop q bs ≡ spelled (binding_fields f (bindings_at f bs n q)) ++ drop (q + n * binding_bits f) bs
unfolding bindings_checks bindings_at
bindings-again f bs made zero q lo h = unfold binding_fields spelled in ap (λ (k : ℕ). drop k bs) (from-none q (binding_bits f))
bindings-again f bs made (suc n) q lo h =
    let x = both_first (binding_checks f bs made q lo) _ h in
    let b = binding-holds f bs made q lo x.0 in
    let r = b.room in
    field-here bs q 32 (omega arith)
    ∙ ap (λ (l : List Bool). bits 32 (number_at bs 32 q) ++ l) (field-here bs (q + 32) f.handle_bits (omega arith)
    ∙ ap (λ (l : List Bool). bits f.handle_bits (handle_at f bs q) ++ l)
    (ap (λ (k : ℕ). drop k bs) (sum q f.handle_bits) ∙ bindings-again f bs made n (q + binding_bits f) _ x.1 ∙ ap (λ (k : ℕ). spelled (binding_fields f (bindings_at f bs n (q + binding_bits f))) ++ drop k bs) (on-from q (binding_bits f) n)))
    ∙ regroup (bits 32 (number_at bs 32 q)) (bits f.handle_bits (handle_at f bs q)) (spelled (binding_fields f (bindings_at f bs n (q + binding_bits f)))) (drop (q + suc n * binding_bits f) bs)
    ∙ ap (λ (l : List Bool). l ++ drop (q + suc n * binding_bits f) bs) (sym (binding-head f bs q (bindings_at f bs n (q + binding_bits f)) b.segment.named))
  where
    sum : (q h : ℕ) → q + 32 + h ≡ q + (32 + h)
    sum q h = omega arith

pub objects-again : (bs : List Bool) (n p : ℕ) → first (object_checks bs n p) ≡ gives tt → drop p bs ≡ spelled (object_fields (objects_at bs n p)) ++ drop (p + n * 64) bs
unfolding object_checks objects_at object_fields spelled
objects-again bs zero p h = ap (λ (k : ℕ). drop k bs) (from-none p 64)
objects-again bs (suc n) p h =
    let x = head-holds _ _ h in
    field-here bs p 64 (leb-true _ _ x.0)
    ∙ rw (objects-again bs n (p + 64) x.1)
    (sym (append_assoc (bits 64 (number_at bs 64 p)) (spelled (object_fields (objects_at bs n (p + 64)))) (drop (p + 64 + n * 64) bs))
    ∙ ap (λ (k : ℕ). (bits 64 (number_at bs 64 p) ++ spelled (object_fields (objects_at bs n (p + 64)))) ++ drop k bs) (on-from p 64 n))

-- a level's count and bindings, and those of the others
module _ (f : Format) (bs : List Bool) (made n p q d rest : ℕ) (last : Bool) (o : Opened f bs made n p q d rest last) where
  own-again : drop q bs ≡ (bits 10 (count_at bs q) ++ spelled (binding_fields f (bindings_at f bs (count_at bs q) (q + 10)))) ++ drop (after f bs q) bs
  own-again =
      field-here bs q 10 o.count.room
      ∙ rw (bindings-again f bs made (count_at bs q) (q + 10) 0 o.own)
      (sym (append_assoc (bits 10 (count_at bs q)) (spelled (binding_fields f (bindings_at f bs (count_at bs q) (q + 10)))) (drop (after f bs q) bs)))

  own-fields : (w : ℕ) (ws : List ℕ) (X : List Binding) → count_of w ≡ count_at bs q
      → spelled (counted_fields f (w ∷ ws) (bindings_at f bs (count_at bs q) (q + 10) ++ X)) ≡ (bits 10 (count_at bs q) ++ spelled (binding_fields f (bindings_at f bs (count_at bs q) (q + 10)))) ++ spelled (counted_fields f ws X)
  unfolding counted_fields spelled
  own-fields w ws X e =
      rw (e, own-front X, own_back X, spelled-append (binding_fields f (bindings_at f bs (count_at bs q) (q + 10))) (counted_fields f ws X), append_assoc (bits 10 (count_at bs q)) (spelled (binding_fields f (bindings_at f bs (count_at bs q) (q + 10)))) (spelled (counted_fields f ws X)))
    where
      own-front : (X : List Binding) → take (count_at bs q) (bindings_at f bs (count_at bs q) (q + 10) ++ X) ≡ bindings_at f bs (count_at bs q) (q + 10)
      own-front X = take_at (bindings_at f bs (count_at bs q) (q + 10)) X (count_at bs q) (length-bindings_at f bs (count_at bs q) (q + 10))

      own_back : (X : List Binding) → drop (count_at bs q) (bindings_at f bs (count_at bs q) (q + 10) ++ X) ≡ X
      own_back X = drop_at (bindings_at f bs (count_at bs q) (q + 10)) X (count_at bs q) (length-bindings_at f bs (count_at bs q) (q + 10))

own-place : (q c rest n w : ℕ) → c ≤ rest → q + 10 + c * w + (suc n * 10 + (rest - c) * w) ≡ q + (suc (suc n) * 10 + rest * w)
own-place q c rest n w h = let e : rest * w ≡ c * w + (rest - c) * w = ap (λ (x : ℕ). x * w) (parts c rest h) ∙ add-mul c (rest - c) w in omega arith
  where
    parts : (c rest : ℕ) → c ≤ rest → rest ≡ c + (rest - c)
    parts c rest h = omega arith

last-place : (q c rest w : ℕ) → c ≡ rest → q + 10 + c * w ≡ q + (1 * 10 + rest * w)
last-place q c rest w e = rw e (same q (rest * w))
  where
    same : (q x : ℕ) → q + 10 + x ≡ q + (1 * 10 + x)
    same q x = omega arith

pub bound-again : (f : Format) (bs : List Bool) (made n p q d rest w : ℕ) → count_of w ≡ count_at bs q → first (bound_checks f bs made n p q d rest) ≡ gives tt
    → drop q bs ≡ spelled (counted_fields f (w ∷ level_words f bs n p (after f bs q)) (bound_at f bs (suc n) q)) ++ drop (q + (suc n * 10 + rest * binding_bits f)) bs
unfolding level_words bound_at
bound-again f bs made zero p q d rest w e h =
    let o = open-last f bs made p q d rest h in
    own-again f bs made zero p q d rest true o
    ∙ rw (own-fields f bs made zero p q d rest true o w [] [] e)
    (unfold counted_fields spelled in
    (rw (append-nil (bits 10 (count_at bs q) ++ spelled (binding_fields f (bindings_at f bs (count_at bs q) (q + 10)))))
    (ap (λ (k : ℕ). (bits 10 (count_at bs q) ++ spelled (binding_fields f (bindings_at f bs (count_at bs q) (q + 10)))) ++ drop k bs) (last-place q (count_at bs q) rest (binding_bits f) (all_left (count_at bs q) rest o.count.held o.count.full)))))
bound-again f bs made (suc n) p q d rest w e h =
    let x = open_more f bs made n p q d rest h in
    let ih = bound-again f bs made n (p + level_bits f) (after f bs q) (depth_at f bs p) (rest - count_at bs q) (word_of_level f bs p (after f bs q)) (word_count f bs p (after f bs q)) x.1 in
    own-again f bs made n p q d rest false x.0
    ∙ rw (own-fields f bs made n p q d rest false x.0 w (word_of_level f bs p (after f bs q) ∷ level_words f bs n (p + level_bits f) (after f bs (after f bs q))) (bound_at f bs (suc n) (after f bs q)) e)
    (ap (λ (l : List Bool). (bits 10 (count_at bs q) ++ spelled (binding_fields f (bindings_at f bs (count_at bs q) (q + 10)))) ++ l)
    (ih ∙ ap (λ (k : ℕ). spelled (counted_fields f (word_of_level f bs p (after f bs q) ∷ level_words f bs n (p + level_bits f) (after f bs (after f bs q))) (bound_at f bs (suc n) (after f bs q))) ++ drop k bs)
    (own-place q (count_at bs q) rest n (binding_bits f) x.0.count.held))
    ∙ sym (append_assoc (bits 10 (count_at bs q) ++ spelled (binding_fields f (bindings_at f bs (count_at bs q) (q + 10))))
    (spelled (counted_fields f (word_of_level f bs p (after f bs q) ∷ level_words f bs n (p + level_bits f) (after f bs (after f bs q))) (bound_at f bs (suc n) (after f bs q)))) (drop (q + (suc (suc n) * 10 + rest * binding_bits f)) bs)))
