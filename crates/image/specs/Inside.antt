-- What the functions inside promise one another. No public contract rests on these.
use Rattle.std.specs.Prelude.{ℕ, zero, suc, ◌+◌, ◌-◌, ◌*◌, ◌^◌, ◌<◌, ◌≤◌, ◌≡◌, Bool, cond, List, [], ◌∷◌, ◌++◌, map, eqb, length, take, drop, get_or}
use Rattle.pkg_length.specs.Refusal.{gives}
use Rattle.image.specs.Bits.{Field, field, bits_in, bytes_for, packed}
use Rattle.image.specs.Image.{bytes_of_segment, binding_fields, object_fields}
use Rattle.table.specs.Limits.{Limits, limits}
use Rattle.table.specs.Layout.{pad, flat, bind_word, rank_of, type_of, count_of, seg_of}
use Rattle.table.specs.Tree.{Binding, Tree, bound}
use Rattle.table.specs.Inside.{counts}
use Rattle.image.specs.declared.Counts.{Counts}
use Rattle.image.specs.Calls.{counts_in}
use Rattle.image.specs.Format.{Format, first_edition, bindings_place, objects_place}
use Rattle.image.specs.Reader.{first, image_checks, levels_in, bindings_in, objects_in, count_at, after, all_words, bound_at, objects_at}

-- bits put over others from place p on, with zero bits to the byte end; all bytes behind stay
unfoldable pub ink : List ℕ → ℕ → List Bool → List ℕ
ink out p bs = packed (take p (bits_in out) ++ bs) ++ drop (bytes_for (p + length bs)) out

-- n levels' bindings stand from place q on, at most rest of them
abbrev pub Walk : Format → List Bool → ℕ → ℕ → ℕ → Type 0
Walk f bs zero q rest = Unit {0}
Walk f bs (suc n) q rest = (after f bs q ≤ length bs) × (count_at bs q ≤ rest) × Walk f bs n (after f bs q) (rest - count_at bs q)

-- the bindings of the root and of n levels more
abbrev pub all_bound : List Bool → ℕ → List Binding
all_bound bs n = bound_at first_edition bs (suc n) (bindings_place first_edition n)

-- the words of an image that was tested
unfoldable pub loaded : Format → Limits → List Bool → List ℕ
loaded f m bs =
    pad m.levels (all_words f bs (levels_in bs))
    ++ (pad m.bindings (map bind_word (bound_at f bs (suc (levels_in bs)) (bindings_place f (levels_in bs))))
    ++ (objects_in bs ∷ pad m.objects (objects_at bs (objects_in bs) (objects_place f (levels_in bs) (bindings_in bs)))))

-- an image that passes every check, with its counts
pub record Accepted (bytes : List ℕ) (c : Counts) : Type 0 where
  pub counts : c ≡ counts_in bytes
  pub checked : first (image_checks first_edition limits (bits_in bytes)) ≡ gives tt

-- Words as fields, for the writer.

-- how many words stand before the first spare one
unfoldable pub used_of : List ℕ → ℕ
used_of [] = 0
used_of (w ∷ ws) = cond (eqb w 0) 0 (suc (used_of ws))

-- a level's word: depth, type, segment
unfoldable pub fields_of_word : Format → ℕ → List Field
fields_of_word f w = field f.depth_bits (rank_of w - 1) ∷ field 3 (type_of w) ∷ field 32 (bytes_of_segment (seg_of w)) ∷ []

unfoldable pub words_fields : Format → List ℕ → List Field
words_fields f [] = []
words_fields f (w ∷ ws) = fields_of_word f w ++ words_fields f ws

-- per level, how many bindings and they
unfoldable pub counted_fields : Format → List ℕ → List Binding → List Field
counted_fields f [] bs = []
counted_fields f (w ∷ ws) bs = field 10 (count_of w) ∷ (binding_fields f (take (count_of w) bs) ++ counted_fields f ws (drop (count_of w) bs))

unfoldable pub counts_fields : Format → ℕ → ℕ → ℕ → List Field
counts_fields f levels bindings objects = field 4 f.edition ∷ field 8 levels ∷ field 10 bindings ∷ field 10 objects ∷ []

-- the fields of level words, the root's first, of so many bindings, and of values
unfoldable pub table_fields : Format → List ℕ → ℕ → List Binding → List ℕ → List Field
table_fields f ws n bs vs = counts_fields f (length ws - 1) n (length vs) ++ (words_fields f (drop 1 ws) ++ (counted_fields f ws bs ++ object_fields vs))

-- every word has a rank
abbrev pub Ranked : List ℕ → Type 0
Ranked ws = (k : ℕ) → k < length ws → 2 ^ 45 ≤ get_or ws k 0

-- from a place on nothing stands yet in its byte, and so many bits have room
pub record Ready (out : List ℕ) (at n : ℕ) : Type 0 where
  pub clean : ink out at [] ≡ out
  pub room : at + n ≤ 8 * length out
  pub low : at + n < 2 ^ 19

-- the words of a table that are in use: levels, bindings, and objects' values
pub record Filled (ws bs vs : List ℕ) : Type 0 where
  pub ranked : Ranked ws
  pub rooted : 1 ≤ length ws
  pub few : length ws ≤ 128
  pub counted : counts ws ≡ length bs
  pub bounded : length bs ≤ 512
  pub made : length vs ≤ 512

-- they are those that a tree is written as
pub record IsInUse (t : Tree) (ws bs vs : List ℕ) : Type 0 where
  pub levels : ws ≡ flat 1 t.levels
  pub bindings : bs ≡ map bind_word (bound t.levels)
  pub objects : vs ≡ t.objects
