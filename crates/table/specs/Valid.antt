-- The trees that a table may hold.
use Rattle.std.specs.Prelude.{ℕ, suc, ◌*◌, ◌^◌, Bool, true, false, cond, ◌&&◌, List, [], ◌∷◌, leb, ltb, eqb, length}
use Rattle.table.specs.Limits.{Limits}
use Rattle.table.specs.Tree.{Binding, Forest, none, level, Tree, is_live, bound, level_count}

-- a number is a segment: of the four characters the first is no digit
unfoldable pub segment_ok : ℕ → Bool
segment_ok s = leb (10 * 37 ^ 3) s && ltb s (37 ^ 4)

-- bindings to live handles, their segments from `lo` on and rising
unfoldable pub rising : (ℕ → Bool) → ℕ → List Binding → Bool
rising live lo [] = true
rising live lo (b ∷ bs) = leb lo b.segment && segment_ok b.segment && live b.handle && rising live (suc b.segment) bs

-- the root has no segment, and is a Scope; below it, a segment and one of the six types
abbrev pub name_ok : ℕ → ℕ → ℕ → Bool
name_ok r s t = cond (eqb r 1) (eqb s 0 && eqb t 0) (segment_ok s && ltb t 6)

-- a binding's name has a component more than its level, so the deepest level has none; a record counts below 1,024
abbrev pub count_ok : ℕ → ℕ → ℕ → Bool
count_ok limit r n = cond (ltb r limit) (ltb n 1024) (eqb n 0)

-- a level of rank r, segment s, type t, with n bindings, whose segment is lo or above
unfoldable pub level_ok : ℕ → ℕ → ℕ → ℕ → ℕ → ℕ → Bool
level_ok limit r lo s t n = ltb 0 r && leb r limit && leb lo s && name_ok r s t && count_ok limit r n

-- siblings of rank r, their segments from lo on and rising
unfoldable pub forest_ok : ℕ → (ℕ → Bool) → ℕ → ℕ → Forest → Bool
forest_ok limit live r lo none = true
forest_ok limit live r lo (level s t b kids next) =
    level_ok limit r lo s t (length b) && rising live 0 b && forest_ok limit live (suc r) 0 kids && forest_ok limit live r (suc s) next

abbrev pub some : Forest → Bool
some none = false
some (level s t b kids next) = true

-- there is a root; every level and binding may stand where it does; nothing is over its limit
unfoldable pub valid : Limits → Tree → Bool
valid m t =
    some t.levels
    && forest_ok m.components (is_live t) 1 0 t.levels
    && leb (level_count t.levels) m.levels
    && leb (length (bound t.levels)) m.bindings
    && leb (length t.objects) m.objects
