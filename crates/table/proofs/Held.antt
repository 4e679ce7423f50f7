-- What well-formed memory shows of its tree: where paths lead, and whether there is room.
use mathlib.Core.Path.{◌≡◌, refl, ap, ap₂, sym, ◌∙◌}
use mathlib.Core.Bool.{true}
use mathlib.Core.List.{List, [], ◌∷◌, ◌++◌, map}
use mathlib.Core.Logic.{⊎_elim}
use Prim.Native.Nat.{ℕ, suc, ◌+◌, ◌-◌, ◌<◌, ◌≤◌, ◌^◌}
use native.Mathlib.Omega.{arith}
use native.Mathlib.Nat.{eq-or-lt_of_le}
use lib.ListN.{length, take, drop, get_or, replicate, get_or-append, take-append-drop}
use lib.Seq.{get_or-append-add, take-suc, take_all, length-take-le, drop-drop}
use Rattle.table.specs.Limits.{Limits}
use Rattle.table.specs.Tree.{Binding, Forest, bound, is_live}
use Rattle.table.specs.Layout.{flat, pad, encode, bind_word}
use Rattle.table.specs.Memory.{is_well_formed, decode}
use Rattle.table.specs.Edits.{scope_of, last_of, with_levels}
use Rattle.table.specs.Inside.{seek_in}
use Rattle.table.proofs.Decode.{below-spare}
use Rattle.table.proofs.Whole.{length-words}
use Rattle.table.proofs.Memory.{level_part, bind_part, object_part, first-is, second_is, third-is}
use Rattle.table.proofs.Objects.{whole, words}
use Rattle.table.proofs.Seek.{seek_f, seek-forest}
use Rattle.table.proofs.Moves.{AllPos, pos-at, pos-flat, pos-bound}
use Rattle.table.proofs.Facts.{get_or-zeros}

-- the last word says whether there is room
module _ (n : ℕ) (xs : List ℕ) where
  room-pad : length xs < n → get_or (pad n xs) (n - 1) 0 ≡ 0
  unfolding pad
  room-pad h =
      ap (λ (k : ℕ). get_or (xs ++ replicate (n - length xs) 0) k 0) (split (length xs) n h)
      ∙ get_or-append-add xs (replicate (n - length xs) 0) (n - 1 - length xs) 0
      ∙ get_or-zeros (n - length xs) (n - 1 - length xs)
    where
      split : (k n : ℕ) → k < n → n - 1 ≡ k + (n - 1 - k)
      split k n h = omega arith

  full-pad : 0 < n → length xs ≡ n → AllPos xs → 0 < get_or (pad n xs) (n - 1) 0
  unfolding pad
  full-pad z h p = rw (get_or-append xs (replicate (n - length xs) 0) 0 (n - 1) (omega arith)) (pos-at xs (n - 1) p (omega arith))

  module _ (p : AllPos xs) (l : length xs ≤ n) (z : 0 < n) where
    pub pad-room : get_or (pad n xs) (n - 1) 0 ≡ 0 → length xs < n
    pad-room e = ⊎_elim (λ x. absurd (omega (arith, full-pad z x p))) (λ x. x) (eq-or-lt_of_le l)

    pub pad-full : (get_or (pad n xs) (n - 1) 0 ≡ 0 → ⊥) → n ≤ length xs
    pad-full e = ⊎_elim (λ x. omega arith) (λ x. absurd (e (room-pad x))) (eq-or-lt_of_le l)

-- a path's last segment, and the path of the level that it stands in
pub record Split (p : List ℕ) : Type 0 where
  pub first : ℕ
  pub middle : List ℕ
  pub all : p ≡ first ∷ (middle ++ (last_of p ∷ []))
  pub scope : scope_of p ≡ first ∷ middle
  pub long : length p ≡ suc (suc (length middle))

pub split-last : (p : List ℕ) → 1 < length p → Split p
split-last p h = go (take (length p - 1) p) refl
  where
    ended : p ≡ take (length p - 1) p ++ (last_of p ∷ [])
    ended = sym (take_all (suc (length p - 1)) p (omega arith)) ∙ take-suc p (length p - 1) 0 (omega arith)

    go : (l : List ℕ) → take (length p - 1) p ≡ l → Split p
    go [] e = absurd (omega (arith, length-take-le (length p - 1) p (omega arith), ap length e))
    go (x ∷ q) e =
        record {
          first = x;
          middle = q;
          all = ended ∙ ap (λ (l : List ℕ). l ++ (last_of p ∷ [])) e;
          scope = e;
          long = omega (arith, length-take-le (length p - 1) p (omega arith), ap length e);
        }

module _ (m : Limits) (hm : m.objects ≤ 2 ^ 32) (ws : List ℕ) (ok : is_well_formed m ws ≡ true) where
  level-words : take m.levels ws ≡ pad m.levels (flat 1 (decode m ws).levels)
  unfolding level_part
  level-words = first-is m hm (decode m ws) (whole m hm ws ok) ws (words m hm ws ok)

  bind-words : take m.bindings (drop m.levels ws) ≡ pad m.bindings (map bind_word (bound (decode m ws).levels))
  unfolding bind_part
  bind-words = second_is m hm (decode m ws) (whole m hm ws ok) ws (words m hm ws ok)

  -- the pass over the words goes where the tree says
  pub seek-held : (p : List ℕ) → seek_in p (take m.levels ws) 0 0 0 ≡ seek_f (decode m ws).levels p 0 0 0
  unfolding pad
  seek-held p =
      ap (λ (l : List ℕ). seek_in p l 0 0 0) level-words
      ∙ seek-forest m.components (is_live (decode m ws)) (decode m ws).levels 0 p _ 0 0 0 (whole m hm ws ok).forest
      (below-spare 1 (m.levels - length (flat 1 (decode m ws).levels)) (omega arith))

  module _ (z : 0 < m.levels) where
    level-pos : AllPos (flat 1 (decode m ws).levels)
    level-pos = pos-flat m.components (is_live (decode m ws)) (decode m ws).levels 1 0 (whole m hm ws ok).forest

    pub levels-room : get_or (take m.levels ws) (m.levels - 1) 0 ≡ 0 → length (flat 1 (decode m ws).levels) < m.levels
    levels-room e = pad-room m.levels (flat 1 (decode m ws).levels) level-pos (whole m hm ws ok).levels z (sym (ap (λ (l : List ℕ). get_or l (m.levels - 1) 0) level-words) ∙ e)

    pub levels-full : (get_or (take m.levels ws) (m.levels - 1) 0 ≡ 0 → ⊥) → m.levels ≤ length (flat 1 (decode m ws).levels)
    levels-full e =
        pad-full m.levels (flat 1 (decode m ws).levels) level-pos (whole m hm ws ok).levels z (λ x. e (ap (λ (l : List ℕ). get_or l (m.levels - 1) 0) level-words ∙ x))

  module _ (z : 0 < m.bindings) where
    bind-pos : AllPos (map bind_word (bound (decode m ws).levels))
    bind-pos = pos-bound m.components (is_live (decode m ws)) (decode m ws).levels 1 0 (whole m hm ws ok).forest

    short : length (map bind_word (bound (decode m ws).levels)) ≤ m.bindings
    short = rw (length-words (decode m ws).levels) (whole m hm ws ok).bindings

    pub bindings-room : get_or (take m.bindings (drop m.levels ws)) (m.bindings - 1) 0 ≡ 0 → length (bound (decode m ws).levels) < m.bindings
    bindings-room e =
        rw (length-words (decode m ws).levels) at
        (pad-room m.bindings (map bind_word (bound (decode m ws).levels)) bind-pos short z (sym (ap (λ (l : List ℕ). get_or l (m.bindings - 1) 0) bind-words) ∙ e))

    pub bindings-full : (get_or (take m.bindings (drop m.levels ws)) (m.bindings - 1) 0 ≡ 0 → ⊥) → m.bindings ≤ length (bound (decode m ws).levels)
    bindings-full e =
        rw (length-words (decode m ws).levels) at
        (pad-full m.bindings (map bind_word (bound (decode m ws).levels)) bind-pos short z (λ x. e (ap (λ (l : List ℕ). get_or l (m.bindings - 1) 0) bind-words ∙ x)))

  -- new levels over the same bindings and objects
  pub relevel : (f : Forest) (ls : List ℕ) → ls ≡ pad m.levels (flat 1 f) → bound f ≡ bound (decode m ws).levels
      → ls ++ drop m.levels ws ≡ encode m (with_levels (decode m ws) f)
  unfolding encode object_part
  relevel f ls e b =
      ap₂ {C = List ℕ} ◌++◌ e
      (sym (take-append-drop m.bindings (drop m.levels ws))
      ∙ ap₂ {C = List ℕ} ◌++◌ (bind-words ∙ ap (λ (x : List Binding). pad m.bindings (map bind_word x)) (sym b))
      (drop-drop m.bindings m.levels ws ∙ third-is m hm (decode m ws) (whole m hm ws ok) ws (words m hm ws ok)))

  -- new levels and bindings over the same objects
  pub rebuild : (f : Forest) (ls bs : List ℕ) → ls ≡ pad m.levels (flat 1 f) → bs ≡ pad m.bindings (map bind_word (bound f))
      → ls ++ (bs ++ drop (m.levels + m.bindings) ws) ≡ encode m (with_levels (decode m ws) f)
  unfolding encode object_part
  rebuild f ls bs e b =
      ap₂ {C = List ℕ} ◌++◌ e (ap₂ {C = List ℕ} ◌++◌ b (third-is m hm (decode m ws) (whole m hm ws ok) ws (words m hm ws ok)))

  pub levels-are : take m.levels ws ≡ flat 1 (decode m ws).levels ++ replicate (m.levels - length (flat 1 (decode m ws).levels)) 0
  unfolding pad
  levels-are = level-words

  pub bindings-are : take m.bindings (drop m.levels ws) ≡ map bind_word (bound (decode m ws).levels) ++ replicate (m.bindings - length (map bind_word (bound (decode m ws).levels))) 0
  unfolding pad
  bindings-are = bind-words
