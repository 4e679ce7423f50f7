-- The namespace: a tree of typed levels, bindings of a segment at a level to a handle, and objects.
use Rattle.std.specs.Prelude.{ℕ, suc, ◌+◌, ◌-◌, ◌*◌, ◌%◌, Bool, cond, List, [], ◌∷◌, ◌++◌, ltb, length}
use Rattle.name_object.specs.Component.{Component, root, up, seg}

-- the characters of a segment are numbered from 0 in the order of their bytes: 0-9, A-Z, `_`
unfoldable pub number_of_char : ℕ → ℕ
number_of_char c = cond (ltb c 0x3A) (c % 16) (cond (ltb c 0x5B) (c - 0x37) 36)

-- A segment is its four characters as one number in base 37, the first character highest: segments are numbered in byte order.
abbrev pub number : ℕ → ℕ → ℕ → ℕ → ℕ
number a b c d = ((number_of_char a * 37 + number_of_char b) * 37 + number_of_char c) * 37 + number_of_char d

pub record Binding : Type 0 where
  pub segment : ℕ
  pub handle : ℕ

-- Sibling levels: none, or the first one's segment, type, bindings and children, and then its later siblings. The root's segment is 0.
pub data Forest : Type 0 where
  none : Forest
  level : ℕ → ℕ → List Binding → Forest → Forest → Forest

-- The levels from the root down, and the objects in the order of their handles.
pub record Tree : Type 0 where
  pub levels : Forest
  pub objects : List ℕ

-- a handle that an object has
abbrev pub is_live : Tree → ℕ → Bool
is_live t h = ltb h (length t.objects)

-- a level with what it holds
pub record Level : Type 0 where
  pub segment : ℕ
  pub typ : ℕ
  pub bindings : List Binding
  pub children : Forest

-- every level's bindings, level by level, a level before those below it
unfoldable pub bound : Forest → List Binding
bound none = []
bound (level s t b kids next) = b ++ (bound kids ++ bound next)

unfoldable pub level_count : Forest → ℕ
level_count none = 0
level_count (level s t b kids next) = suc (level_count kids + level_count next)

-- what a component is in the tree: the root's segment is 0
abbrev pub key : Component → ℕ
key root = 0
key up = 0
key (seg a b c d) = number a b c d

unfoldable pub keys : List Component → List ℕ
keys [] = []
keys (c ∷ cs) = key c ∷ keys cs
