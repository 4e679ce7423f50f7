-- The image of a tree: its fields in order, from left to right.
use Rattle.std.specs.Prelude.{ℕ, suc, ◌+◌, ◌*◌, ◌/◌, ◌%◌, List, [], ◌∷◌, ◌++◌, length}
use Rattle.table.specs.Tree.{Binding, Forest, none, level, Tree, bound, level_count}
use Rattle.table.specs.Levels.{char_of_number}
use Rattle.image.specs.Bits.{Field, field, spelled, packed}
use Rattle.image.specs.Format.{Format}

-- a segment's four characters as bytes, the first one highest; the tree has its number in base 37
unfoldable pub bytes_of_segment : ℕ → ℕ
bytes_of_segment s = ((char_of_number (s / 37 / 37 / 37) * 256 + char_of_number (s / 37 / 37 % 37)) * 256 + char_of_number (s / 37 % 37)) * 256 + char_of_number (s % 37)

-- levels in preorder: depth, type, segment
unfoldable pub level_fields : Format → ℕ → Forest → List Field
level_fields f d none = []
level_fields f d (level s t b kids next) =
    field f.depth_bits d ∷ field 3 t ∷ field 32 (bytes_of_segment s) ∷ (level_fields f (suc d) kids ++ level_fields f d next)

-- a level's bindings: segment, handle
unfoldable pub binding_fields : Format → List Binding → List Field
binding_fields f [] = []
binding_fields f (b ∷ bs) = field 32 (bytes_of_segment b.segment) ∷ field f.handle_bits b.handle ∷ binding_fields f bs

-- per level in the same order: how many bindings, and the bindings
unfoldable pub bound_fields : Format → Forest → List Field
bound_fields f none = []
bound_fields f (level s t b kids next) = field 10 (length b) ∷ (binding_fields f b ++ (bound_fields f kids ++ bound_fields f next))

unfoldable pub object_fields : List ℕ → List Field
object_fields [] = []
object_fields (v ∷ vs) = field 64 v ∷ object_fields vs

-- the levels below the root
abbrev pub children : Forest → Forest
children none = none
children (level s t b kids next) = kids

abbrev pub below_root : Tree → Forest
below_root t = children t.levels

-- edition, counts without the root; levels without the root; bindings, root first; objects in handle order
unfoldable pub image_fields : Format → Tree → List Field
image_fields f t =
    field 4 f.edition ∷ field 8 (level_count (below_root t)) ∷ field 10 (length (bound t.levels)) ∷ field 10 (length t.objects)
    ∷ (level_fields f 1 (below_root t) ++ (bound_fields f t.levels ++ object_fields t.objects))

-- the image's bytes: zero bits to the byte end
unfoldable pub image : Format → Tree → List ℕ
image f t = packed (spelled (image_fields f t))
