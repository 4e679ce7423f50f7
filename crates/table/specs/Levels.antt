-- The levels of a tree as a list (02, R-8): from a starting level down, each with its depth, its type and its segment.
use Rattle.std.specs.Prelude.{ℕ, suc, ◌+◌, ◌-◌, ◌/◌, ◌%◌, cond, List, [], ◌∷◌, ◌++◌, leb, ltb, eqb, length, take}
use Rattle.pkg_length.specs.Refusal.{Answer, gives, refuses, and_then}
use Rattle.table.specs.Tree.{Forest, none, level, Tree, Level}
use Rattle.table.specs.Layout.{rank_of, type_of, seg_of}
use Rattle.table.specs.Edits.{level_at}

-- a level in the list: how many levels stand around it, the root's depth being 0; its type; its segment's number
pub record Listed : Type 0 where
  pub depth : ℕ
  pub typ : ℕ
  pub segment : ℕ

-- preorder: siblings of depth d as they stand in the tree, which is in byte order, each followed by everything below it
unfoldable pub preorder : ℕ → Forest → List Listed
preorder d none = []
preorder d (level s t b kids next) = record { depth = d; typ = t; segment = s } ∷ (preorder (suc d) kids ++ preorder d next)

-- a level of depth d, which comes first itself, and everything below it
abbrev pub listed : ℕ → Level → List Listed
listed d l = record { depth = d; typ = l.typ; segment = l.segment } ∷ preorder (suc d) l.children

-- from the level at a path down; 15. The path of a level has one key more than levels stand around it
unfoldable pub levels_from : Tree → List ℕ → Answer (List Listed)
levels_from t p = and_then (level_at 0 t.levels p) (λ l. gives (listed (length p - 1) l))

-- what fits a list of so many records; 25, with the number needed
unfoldable pub fitting : {A : Type 0} → ℕ → List A → Answer (List A)
fitting room xs = cond (leb (length xs) room) (gives xs) (refuses 25 (length xs))

-- the character of a number: what `number_of_char` numbers, from 0 to 36
unfoldable pub char_of_number : ℕ → ℕ
char_of_number n = cond (ltb n 10) (n + 0x30) (cond (ltb n 36) (n + 0x37) 0x5F)

-- the four characters of a number
abbrev pub characters_of_segment : ℕ → List ℕ
characters_of_segment s = char_of_number (s / 37 / 37 / 37) ∷ char_of_number (s / 37 / 37 % 37) ∷ char_of_number (s / 37 % 37) ∷ char_of_number (s % 37) ∷ []

-- a segment's four bytes, from its number; the root, whose number is 0, has four zero bytes
unfoldable pub bytes_of_segment : ℕ → List ℕ
bytes_of_segment s =
    cond (eqb s 0) (0 ∷ 0 ∷ 0 ∷ 0 ∷ [])
    (char_of_number (s / 37 / 37 / 37) ∷ char_of_number (s / 37 / 37 % 37) ∷ char_of_number (s / 37 % 37) ∷ char_of_number (s % 37) ∷ [])

-- what a level's word says of it
abbrev pub word_level : ℕ → Listed
word_level w = record { depth = rank_of w - 1; typ = type_of w; segment = seg_of w }

-- The list read back, by depths alone: a level's path is, of the path of the level before it in the list, as many keys as its depth, and then its own key.
pub record Reached : Type 0 where
  pub path : List ℕ
  pub typ : ℕ

-- p is the path of the level before
unfoldable pub reached_from : List ℕ → List Listed → List Reached
reached_from p [] = []
reached_from p (x ∷ xs) =
    record { path = take x.depth p ++ (x.segment ∷ []); typ = x.typ } ∷ reached_from (take x.depth p ++ (x.segment ∷ [])) xs
