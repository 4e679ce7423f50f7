-- Reading an image: its checks from left to right, of which the first that does not hold is the refusal; else its tree.
use Rattle.std.specs.Prelude.{ℕ, zero, suc, ◌+◌, ◌-◌, ◌*◌, ◌/◌, ◌%◌, ◌^◌, Bool, true, false, cond, not, ◌&&◌, ◌||◌, List, [], ◌∷◌, ◌++◌, leb, ltb, eqb, length, get_or, set, replicate}
use Rattle.pkg_length.specs.Refusal.{Answer, gives, refuses, and_then}
use Rattle.name_object.specs.Component.{is_seg_ok}
use Rattle.table.specs.Limits.{Limits}
use Rattle.table.specs.Tree.{Binding, Tree, number}
use Rattle.table.specs.Layout.{pack}
use Rattle.table.specs.Memory.{siblings}
use Rattle.image.specs.Bits.{bits_in, bytes_for, number_at}
use Rattle.image.specs.Format.{Format, header_bits, level_bits, binding_bits, bindings_place, objects_place, image_bits}

-- something that must hold, and the number and place of the refusal where it does not
pub record Check : Type 0 where
  pub holds : Bool
  pub refusal : ℕ
  pub place : ℕ

abbrev pub check : Bool → ℕ → ℕ → Check
check b n p = record { holds = b; refusal = n; place = p }

-- the first that does not hold
unfoldable pub first : List Check → Answer (Unit {0})
first [] = gives tt
first (c ∷ cs) = cond c.holds (first cs) (refuses c.refusal c.place)

-- a field of w bits at place p is there
abbrev pub fits : List Bool → ℕ → ℕ → Check
fits bs w p = check (leb (p + w) (length bs)) 32 p

-- a segment's field: four characters
unfoldable pub are_chars_ok : ℕ → Bool
are_chars_ok v = is_seg_ok (v / 2 ^ 24) (v / 2 ^ 16 % 256) (v / 2 ^ 8 % 256) (v % 256)

-- and its number in the tree
unfoldable pub segment_number : ℕ → ℕ
segment_number v = number (v / 2 ^ 24) (v / 2 ^ 16 % 256) (v / 2 ^ 8 % 256) (v % 256)

-- The header.

abbrev pub levels_in : List Bool → ℕ
levels_in bs = number_at bs 8 4

abbrev pub bindings_in : List Bool → ℕ
bindings_in bs = number_at bs 10 12

abbrev pub objects_in : List Bool → ℕ
objects_in bs = number_at bs 10 22

unfoldable pub header_checks : Format → Limits → List Bool → List Check
header_checks f m bs =
    fits bs 4 0 ∷ check (eqb (number_at bs 4 0) f.edition) 33 0
    ∷ fits bs 8 4 ∷ check (ltb (levels_in bs) m.levels) 34 4
    ∷ fits bs 10 12 ∷ check (leb (bindings_in bs) m.bindings) 34 12
    ∷ fits bs 10 22 ∷ check (leb (objects_in bs) m.objects) 34 22
    ∷ []

-- Levels.

abbrev pub depth_at : Format → List Bool → ℕ → ℕ
depth_at f bs p = number_at bs f.depth_bits p

abbrev pub type_at : Format → List Bool → ℕ → ℕ
type_at f bs p = number_at bs 3 (p + f.depth_bits)

abbrev pub chars_at : Format → List Bool → ℕ → ℕ
chars_at f bs p = number_at bs 32 (p + f.depth_bits + 3)

-- a segment at place p, from lo on
unfoldable pub segment_checks : List Bool → ℕ → ℕ → List Check
segment_checks bs p lo = fits bs 32 p ∷ check (are_chars_ok (number_at bs 32 p)) 37 p ∷ check (leb lo (segment_number (number_at bs 32 p))) 38 p ∷ []

-- a level's type and segment
unfoldable pub named_checks : Format → List Bool → ℕ → ℕ → List Check
named_checks f bs p lo = fits bs 3 (p + f.depth_bits) ∷ check (ltb (type_at f bs p) 6) 36 (p + f.depth_bits) ∷ segment_checks bs (p + f.depth_bits + 3) lo

-- not 0, not over the limit, and no more than one below the record before
abbrev pub is_depth_ok : Format → ℕ → ℕ → Bool
is_depth_ok f before d = ltb 0 d && leb d f.deepest && leb d (before + 1)

-- a level's record at place p, behind one of this depth; low has the least segment that may come at each depth
unfoldable pub level_checks : Format → List Bool → ℕ → ℕ → List ℕ → List Check
level_checks f bs p before low =
    fits bs f.depth_bits p ∷ check (is_depth_ok f before (depth_at f bs p)) 35 p ∷ named_checks f bs p (get_or low (depth_at f bs p) 0)

-- after a level: siblings come above its segment, children may have any
abbrev pub seen : List ℕ → ℕ → ℕ → List ℕ
seen low d s = set (set low d (s + 1)) (d + 1) 0

-- n levels
unfoldable pub levels_checks : Format → List Bool → ℕ → ℕ → ℕ → List ℕ → List Check
levels_checks f bs zero p before low = []
levels_checks f bs (suc n) p before low =
    level_checks f bs p before low
    ++ levels_checks f bs n (p + level_bits f) (depth_at f bs p) (seen low (depth_at f bs p) (segment_number (chars_at f bs p)))

-- at first the root alone is there
unfoldable pub root_seen : Format → List ℕ
root_seen f = 1 ∷ replicate (f.deepest + 1) 0

-- Bindings.

abbrev pub count_at : List Bool → ℕ → ℕ
count_at bs q = number_at bs 10 q

abbrev pub handle_at : Format → List Bool → ℕ → ℕ
handle_at f bs q = number_at bs f.handle_bits (q + 32)

-- a binding at place q, its segment from lo on, its handle below made
unfoldable pub binding_checks : Format → List Bool → ℕ → ℕ → ℕ → List Check
binding_checks f bs made q lo = segment_checks bs q lo ++ (fits bs f.handle_bits (q + 32) ∷ check (ltb (handle_at f bs q) made) 42 (q + 32) ∷ [])

-- n bindings, their segments rising
unfoldable pub bindings_checks : Format → List Bool → ℕ → ℕ → ℕ → ℕ → List Check
bindings_checks f bs made zero q lo = []
bindings_checks f bs made (suc n) q lo =
    binding_checks f bs made q lo ++ bindings_checks f bs made n (q + binding_bits f) (segment_number (number_at bs 32 q) + 1)

-- a binding count at place q of a level of depth d, `rest` bindings being left of the header's
unfoldable pub count_checks : Format → List Bool → Bool → ℕ → ℕ → ℕ → List Check
count_checks f bs last q d rest =
    fits bs 10 q ∷ check (not (eqb d f.deepest) || eqb (count_at bs q) 0) 39 q
    ∷ check (leb (count_at bs q) rest) 40 q ∷ check (not last || leb rest (count_at bs q)) 41 q
    ∷ []

-- the place behind a level's bindings
abbrev pub after : Format → List Bool → ℕ → ℕ
after f bs q = q + 10 + count_at bs q * binding_bits f

-- a level's bindings: their count, then they
unfoldable pub own_checks : Format → List Bool → ℕ → Bool → ℕ → ℕ → ℕ → List Check
own_checks f bs made last q d rest = count_checks f bs last q d rest ++ bindings_checks f bs made (count_at bs q) (q + 10) 0

-- those of a level of depth d, and of n more, whose records stand from place p on
unfoldable pub bound_checks : Format → List Bool → ℕ → ℕ → ℕ → ℕ → ℕ → ℕ → List Check
bound_checks f bs made zero p q d rest = own_checks f bs made true q d rest
bound_checks f bs made (suc n) p q d rest =
    own_checks f bs made false q d rest
    ++ bound_checks f bs made n (p + level_bits f) (after f bs q) (depth_at f bs p) (rest - count_at bs q)

-- Objects, and the end.

unfoldable pub object_checks : List Bool → ℕ → ℕ → List Check
object_checks bs zero p = []
object_checks bs (suc n) p = fits bs 64 p ∷ object_checks bs n (p + 64)

-- the spare bits of the last byte, and nothing behind it
unfoldable pub end_checks : List Bool → ℕ → List Check
end_checks bs p =
    check (eqb (number_at bs (8 * bytes_for p - p) p) 0) 43 p
    ∷ check (leb (length bs) (8 * bytes_for p)) 44 (8 * bytes_for p)
    ∷ []

-- behind the bindings: the objects, then the end
unfoldable pub rest_checks : Format → List Bool → ℕ → ℕ → ℕ → List Check
rest_checks f bs levels bindings objects = object_checks bs objects (objects_place f levels bindings) ++ end_checks bs (image_bits f levels bindings objects)

-- behind the header, which counts so many levels, bindings and objects
unfoldable pub body_checks : Format → List Bool → ℕ → ℕ → ℕ → List Check
body_checks f bs levels bindings objects =
    levels_checks f bs levels header_bits 0 (root_seen f)
    ++ (bound_checks f bs objects levels header_bits (bindings_place f levels) 0 bindings
    ++ rest_checks f bs levels bindings objects)

-- all checks in order
unfoldable pub image_checks : Format → Limits → List Bool → List Check
image_checks f m bs = header_checks f m bs ++ body_checks f bs (levels_in bs) (bindings_in bs) (objects_in bs)

-- What is read: the table's words, level by level.

-- a level whose record stands at place p, its bindings at q
unfoldable pub word_of_level : Format → List Bool → ℕ → ℕ → ℕ
word_of_level f bs p q = pack (suc (depth_at f bs p)) (type_at f bs p) (count_at bs q) (segment_number (chars_at f bs p))

unfoldable pub level_words : Format → List Bool → ℕ → ℕ → ℕ → List ℕ
level_words f bs zero p q = []
level_words f bs (suc n) p q = word_of_level f bs p q ∷ level_words f bs n (p + level_bits f) (after f bs q)

-- n bindings from place q on
unfoldable pub bindings_at : Format → List Bool → ℕ → ℕ → List Binding
bindings_at f bs zero q = []
bindings_at f bs (suc n) q =
    record { segment = segment_number (number_at bs 32 q); handle = handle_at f bs q } ∷ bindings_at f bs n (q + binding_bits f)

-- those of n levels
unfoldable pub bound_at : Format → List Bool → ℕ → ℕ → List Binding
bound_at f bs zero q = []
bound_at f bs (suc n) q = bindings_at f bs (count_at bs q) (q + 10) ++ bound_at f bs n (after f bs q)

unfoldable pub objects_at : List Bool → ℕ → ℕ → List ℕ
objects_at bs zero p = []
objects_at bs (suc n) p = number_at bs 64 p ∷ objects_at bs n (p + 64)

-- the root's record is not in the image, its bindings are; n levels besides
unfoldable pub all_words : Format → List Bool → ℕ → List ℕ
all_words f bs n = pack 1 0 (count_at bs (bindings_place f n)) 0 ∷ level_words f bs n header_bits (after f bs (bindings_place f n))

unfoldable pub tree_in : Format → List Bool → Tree
tree_in f bs =
    record {
      levels = siblings 1 (all_words f bs (levels_in bs)) (bound_at f bs (suc (levels_in bs)) (bindings_place f (levels_in bs)));
      objects = objects_at bs (objects_in bs) (objects_place f (levels_in bs) (bindings_in bs));
    }

unfoldable pub image_in : Format → Limits → List ℕ → Answer Tree
image_in f m bytes = and_then (first (image_checks f m (bits_in bytes))) (λ _. gives (tree_in f (bits_in bytes)))
