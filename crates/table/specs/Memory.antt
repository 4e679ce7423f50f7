-- What memory means: the one tree that is written so, or 24.
use Rattle.std.specs.Prelude.{ℕ, suc, ◌+◌, Bool, true, false, cond, ◌&&◌, List, [], ◌∷◌, map, ltb, eqb, take, drop, get_or}
use Rattle.pkg_length.specs.Refusal.{Answer, gives, refuses}
use Rattle.table.specs.Limits.{Limits}
use Rattle.table.specs.Tree.{Binding, Forest, none, level, Tree}
use Rattle.table.specs.Layout.{rank_of, type_of, count_of, seg_of, binding_of, encode}
use Rattle.table.specs.Valid.{valid}

-- the siblings of rank r that stand next among records, past deeper ones, with their bindings
unfoldable pub siblings : ℕ → List ℕ → List Binding → Forest
siblings r [] bs = none
siblings r (w ∷ ws) bs =
    cond (ltb r (rank_of w)) (siblings r ws (drop (count_of w) bs))
    (cond (eqb (rank_of w) r)
    (level (seg_of w) (type_of w) (take (count_of w) bs) (siblings (suc r) ws (drop (count_of w) bs)) (siblings r ws (drop (count_of w) bs)))
    none)

-- the only tree that words can stand for
unfoldable pub decode : Limits → List ℕ → Tree
decode m ws =
    record {
      levels = siblings 1 (take m.levels ws) (map binding_of (take m.bindings (drop m.levels ws)));
      objects = take (get_or ws (m.levels + m.bindings) 0) (drop (m.levels + m.bindings + 1) ws);
    }

unfoldable pub same : List ℕ → List ℕ → Bool
same [] [] = true
same [] (y ∷ ys) = false
same (x ∷ xs) [] = false
same (x ∷ xs) (y ∷ ys) = eqb x y && same xs ys

-- words are well-formed when they are what a valid tree is written as
unfoldable pub is_well_formed : Limits → List ℕ → Bool
is_well_formed m ws = valid m (decode m ws) && same (encode m (decode m ws)) ws

unfoldable pub means : Limits → List ℕ → Answer Tree
means m ws = cond (is_well_formed m ws) (gives (decode m ws)) (refuses 24 0)

-- how many words a table has
abbrev pub size : Limits → ℕ
size m = m.levels + (m.bindings + suc m.objects)

-- a tree after an edit, and what the edit gives
pub record Edited (A : Type 0) : Type 0 where
  pub tree : Tree
  pub value : A

-- what a call leaves in memory, beside what it says
pub record Left (A : Type 0) : Type 0 where
  pub words : List ℕ
  pub said : Answer A

-- an edit writes the new tree; a refusal leaves the words as they were
abbrev pub left : {A : Type 0} → Limits → List ℕ → Answer (Edited A) → Left A
left m ws (gives e) = record { words = encode m e.tree; said = gives e.value }
left m ws (refuses n p) = record { words = ws; said = refuses n p }

-- the root, a Scope, and nothing else
abbrev pub fresh_tree : Tree
fresh_tree = record { levels = level 0 0 [] none none; objects = [] }

-- an edit that gives nothing but the tree
abbrev pub done : Answer Tree → Answer (Edited (Unit {0}))
done (gives t) = gives (record { tree = t; value = tt })
done (refuses n p) = refuses n p
