-- The search mark, through the calls: each call reads what the one before it wrote. A table's words mean the tree that they were written from
-- (`means-is-written`), so a call on written words is its edit of that tree, which computes.
use Prim.Native.Nat.{ℕ}
use mathlib.Core.Path.{◌≡◌, refl, ap, sym, ◌∙◌}
use mathlib.Core.Bool.{true}
use mathlib.Core.List.{List, [], ◌∷◌}
use native.Mathlib.Omega.{arith}
use lib.ListN.{replicate}
use Rattle.pkg_length.specs.Refusal.{Answer, gives, and_then}
use Rattle.name_object.specs.Component.{root, seg, lead_ok, digit_ok, char_ok, is_seg_ok, spell}
use Rattle.name_object.specs.Memory.{Named, zeros, name_of, component_of, components, path_of_name, all_zero, bare, kind_ok, bytes_ok, path_ok, path_in_answer}
use Rattle.path.specs.Normal.{step, walk, upright, limited, normal}
use Rattle.path.specs.Text.{padded, reading, after_root, text_path, from_text}
use Rattle.table.specs.Limits.{limits}
use Rattle.table.specs.Tree.{number_of_char, number, Binding, Forest, none, level, Tree, keys, bound, level_count}
use Rattle.table.specs.Layout.{encode}
use Rattle.table.specs.Valid.{segment_ok, rising, level_ok, forest_ok, valid}
use Rattle.table.specs.Memory.{means, Edited, left, fresh_tree, size}
use Rattle.table.specs.Edits.{level_at, alter, has_level, insert_level, insert_binding, with_child, with_binding, add_level_answer, is_bound, handle_in, look_up_answer, bind, add_value_answer}
use Rattle.table.specs.Search.{Hit, outward, value_held_in, search_up_answer}
use Rattle.table.proofs.Memory.{one-tree}
use Rattle.table.proofs.Laws.{means-is-written}
use Rattle.namespace.specs.declared.LevelType.TheVariants.{Scope}
use Rattle.namespace.specs.Calls.{new_call, settled, settled_keys, add_level_call, add_value_call}
use Rattle.namespace.specs.Search.{search_call}
use Rattle.cases.specs.Cases.{typed, after, level_added, value_added, paper_table, hit_shown, searched}

written : (t : Tree) → valid limits t ≡ true → means limits (encode limits t) ≡ gives t
written t v = (means-is-written limits (encode limits t) t (omega arith)).1 (v, refl)

-- an edit of written words leaves what its tree is written as
edited : {A : Type 0} (t : Tree) (edit : Tree → Answer (Edited A)) (e : Edited A) → valid limits t ≡ true → edit t ≡ gives e
    → (left limits (encode limits t) (and_then (means limits (encode limits t)) edit)).words ≡ encode limits e.tree
edited t edit e v h =
    ap (λ (a : Answer Tree). (left limits (encode limits t) (and_then a edit)).words) (written t v)
    ∙ ap (λ (a : Answer (Edited _)). (left limits (encode limits t) a).words) h

-- a question to written words is put to their tree
asked : {A : Type 0} (t : Tree) (ask : Tree → Answer A) → valid limits t ≡ true → and_then (means limits (encode limits t)) ask ≡ ask t
asked t ask v = ap (λ (a : Answer Tree). and_then a ask) (written t v)

-- the trees on the way
abbrev x : ℕ → List Binding
x h = record { segment = number 0x58 0x5F 0x5F 0x5F; handle = h } ∷ []

abbrev tree : List Binding → List Binding → Forest → List ℕ → Tree
tree at_root at_a below_a objects = record { levels = level 0 0 at_root (level (number 0x41 0x5F 0x5F 0x5F) 0 at_a below_a none) none; objects = objects }

abbrev b : Forest
b = level (number 0x42 0x5F 0x5F 0x5F) 0 [] none none

-- what the search gives: `\A___.X___`, handle 1, 3 asked
abbrev pub hit : Named Hit
hit = record { path = root ∷ seg 0x41 0x5F 0x5F 0x5F ∷ seg 0x58 0x5F 0x5F 0x5F ∷ []; value = record { handle = 1; asked = 3 } }

-- each call's step, from written words to written words, and the search on the last
record Steps : Type 0 where
  fresh_valid : valid limits fresh_tree ≡ true
  a_valid : valid limits (tree [] [] none []) ≡ true
  fresh : after (new_call limits) (replicate (size limits) 0) ≡ encode limits fresh_tree
  a_added : level_added (0x5C ∷ 0x41 ∷ []) (encode limits fresh_tree) ≡ encode limits (tree [] [] none [])
  b_added : level_added (0x5C ∷ 0x41 ∷ 0x2E ∷ 0x42 ∷ []) (encode limits (tree [] [] none [])) ≡ encode limits (tree [] [] b [])
  x_added : value_added (0x5C ∷ 0x58 ∷ []) (encode limits (tree [] [] b [])) ≡ encode limits (tree (x 0) [] b (0 ∷ []))
  ax_added : value_added (0x5C ∷ 0x41 ∷ 0x2E ∷ 0x58 ∷ []) (encode limits (tree (x 0) [] b (0 ∷ []))) ≡ encode limits (tree (x 0) (x 1) b (0 ∷ 0 ∷ []))
  found : search_call limits (encode limits (tree (x 0) (x 1) b (0 ∷ 0 ∷ []))) (typed (0x58 ∷ [])) (typed (0x5C ∷ 0x41 ∷ 0x2E ∷ 0x42 ∷ 0x2E ∷ 0x43 ∷ []))
      ≡ gives hit

steps : Steps
unfolding after new_call add_level_call add_value_call search_call settled_keys settled lead_ok digit_ok char_ok is_seg_ok spell zeros name_of component_of components path_of_name
    all_zero bare kind_ok bytes_ok path_ok path_in_answer step walk upright limited normal padded reading after_root text_path from_text number_of_char keys bound level_count segment_ok
    rising level_ok forest_ok valid level_at alter has_level insert_level insert_binding with_child with_binding add_level_answer is_bound handle_in look_up_answer bind add_value_answer
    outward value_held_in search_up_answer
steps =
    record {
      fresh_valid = refl;
      a_valid = refl;
      fresh = refl;
      a_added = edited fresh_tree _ (record { tree = tree [] [] none []; value = tt }) refl refl;
      b_added = edited (tree [] [] none []) _ (record { tree = tree [] [] b []; value = tt }) refl refl;
      x_added = edited (tree [] [] b []) _ (record { tree = tree (x 0) [] b (0 ∷ []); value = 0 }) refl refl;
      ax_added = edited (tree (x 0) [] b (0 ∷ [])) _ (record { tree = tree (x 0) (x 1) b (0 ∷ 0 ∷ []); value = 1 }) refl refl;
      found = asked (tree (x 0) (x 1) b (0 ∷ 0 ∷ [])) _ refl;
    }

-- the level's words are no longer the fresh table's
pub a-is-written : after (λ ws. add_level_call limits ws (typed (0x5C ∷ 0x41 ∷ [])) Scope) (encode limits fresh_tree) ≡ encode limits fresh_tree → ⊥
a-is-written e =
    let same : fresh_tree ≡ tree [] [] none [] =
    one-tree limits (encode limits fresh_tree) fresh_tree (tree [] [] none []) (omega arith) steps.fresh_valid steps.a_valid refl
    (sym e ∙ steps.a_added)
    in
    let levels : ◌≡◌ {A = Forest} fresh_tree.levels (tree [] [] none []).levels = ap (λ (t : Tree). t.levels) same in
    let z : ◌≡◌ {A = ℕ} 0 1 = cc in
    omega arith

pub search-hit : search_call limits paper_table (typed (0x58 ∷ [])) (typed (0x5C ∷ 0x41 ∷ 0x2E ∷ 0x42 ∷ 0x2E ∷ 0x43 ∷ [])) ≡ gives hit
unfolding paper_table
search-hit = rw (steps.fresh, steps.a_added, steps.b_added, steps.x_added, steps.ax_added) steps.found

pub search-mark : searched (0x58 ∷ []) (0x5C ∷ 0x41 ∷ 0x2E ∷ 0x42 ∷ 0x2E ∷ 0x43 ∷ [])
    ≡ gives (1 ∷ 3 ∷ 0x5C ∷ 0 ∷ 0 ∷ 0 ∷ 0x41 ∷ 0x5F ∷ 0x5F ∷ 0x5F ∷ 0x58 ∷ 0x5F ∷ 0x5F ∷ 0x5F ∷ [])
unfolding searched spell
search-mark = ap hit_shown search-hit
