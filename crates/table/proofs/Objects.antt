-- A fresh table, and objects read and set by their handles.
use mathlib.Core.Path.{◌≡◌, refl, ap, ap₂, sym, ◌∙◌}
use mathlib.Core.Bool.{Bool, true, false, cond}
use mathlib.Core.List.{List, [], ◌∷◌, ◌++◌, append_assoc, map}
use Prim.Native.Nat.{ℕ, suc, ◌+◌, ◌-◌, ◌<◌, ◌≤◌, ◌^◌}
use native.Mathlib.Omega.{arith}
use lib.Dec.{ltb}
use lib.ListN.{length, drop, get_or, set, replicate, replicate-append-replicate, length-append, length-set}
use lib.Seq.{get_or-take, get_or-drop, set-append_left}
use borrow.Author.Tests.{lt-ltb, le-ltb}
use Rattle.pkg_length.specs.Refusal.{gives, refuses}
use Rattle.table.specs.Limits.{Limits}
use Rattle.table.specs.Tree.{Tree, bound, is_live}
use Rattle.table.specs.Layout.{pack, flat, pad, encode, bind_word}
use Rattle.table.specs.Valid.{rising, level_ok, valid}
use Rattle.table.specs.Memory.{decode, is_well_formed, means, size, left, done, fresh_tree}
use Rattle.table.specs.Edits.{with_objects, value_of, set_value}
use Rattle.table.proofs.Shape.{fit, tests-level}
use Rattle.table.proofs.Whole.{Whole, valid-whole, whole-valid}
use Rattle.table.proofs.Memory.{level_part, bind_part, object_part, length-levels, length-binds, encode-parts, encode-length, formed-whole, third-head}
use Rattle.table.proofs.Facts.{zero-plus}

pub set-append-add : (xs ys : List ℕ) (i a : ℕ) → set (xs ++ ys) (length xs + i) a ≡ xs ++ set ys i a
set-append-add [] ys i a = ap (λ (n : ℕ). set ys n a) (zero-plus i)
set-append-add (x ∷ xs) ys i a = ap (λ (n : ℕ). set (x ∷ (xs ++ ys)) n a) (plus (length xs) i) ∙ ap (λ (l : List ℕ). x ∷ l) (set-append-add xs ys i a)
  where
    plus : (m n : ℕ) → suc m + n ≡ suc (m + n)
    plus m n = omega arith

-- memory that is well-formed means what it decodes to
pub means-formed : (m : Limits) (ws : List ℕ) → is_well_formed m ws ≡ true → means m ws ≡ gives (decode m ws)
unfolding means
means-formed m ws h = rw h

pub means-unformed : (m : Limits) (ws : List ℕ) → is_well_formed m ws ≡ false → means m ws ≡ refuses 24 0
unfolding means
means-unformed m ws h = rw h

-- a fresh table
pub fresh_valid : (m : Limits) → 0 < m.levels → 0 < m.components → valid m fresh_tree ≡ true
fresh_valid m h k =
    whole-valid m fresh_tree
    (record {
      rooted = refl;
      forest = (fit m.components (is_live fresh_tree) 1 0 0 0 [] root_ok (unfold rising in refl), tt, tt);
      levels = unfold flat in h;
      bindings = unfold bound in omega arith;
      objects = omega arith;
    })
  where
    either : (t : Bool) → cond t true true ≡ true
    either true = refl
    either false = refl

    root_ok : level_ok m.components 1 0 0 0 0 ≡ true
    root_ok = tests-level m.components 1 0 0 0 0 (record { ranked = omega arith; shallow = k; rises = omega arith; named = refl; counted = either (ltb 1 m.components) })

root-alone : flat 1 fresh_tree.levels ≡ 2 ^ 45 ∷ []
unfolding flat pack
root-alone = refl

none-bound : map bind_word (bound fresh_tree.levels) ≡ []
unfolding bound
none-bound = refl

pub fresh-words : (m : Limits) → 0 < m.levels → set (replicate (size m) 0) 0 (2 ^ 45) ≡ encode m fresh_tree
unfolding encode pad
fresh-words m h =
    rw (root-alone, none-bound)
    (ap (λ (n : ℕ). set (replicate n 0) 0 (2 ^ 45)) (first m.levels m.bindings m.objects h)
    ∙ ap (λ (l : List ℕ). 2 ^ 45 ∷ l)
    (sym (replicate-append-replicate (m.levels - 1) (m.bindings + suc m.objects) 0)
    ∙ ap (λ (l : List ℕ). replicate (m.levels - 1) 0 ++ l) (sym (replicate-append-replicate m.bindings (suc m.objects) 0) ∙ ap₂ (λ (x y : ℕ). replicate x 0 ++ (0 ∷ replicate y 0)) (less m.bindings) (less m.objects))))
  where
    first : (l b o : ℕ) → 0 < l → l + (b + suc o) ≡ suc (l - 1 + (b + suc o))
    first l b o h = omega arith

    less : (n : ℕ) → n ≡ n - 0
    less n = omega arith

-- objects
module _ (m : Limits) (hm : m.objects ≤ 2 ^ 32) (ws : List ℕ) (ok : is_well_formed m ws ≡ true) where
  abbrev pub tree : Tree
  tree = decode m ws

  pub whole : Whole m tree
  whole = valid-whole m tree (formed-whole m ws ok).0

  pub words : ws ≡ encode m tree
  words = (formed-whole m ws ok).1

  pub long : length ws ≡ size m
  long = ap length words ∙ encode-length m hm tree whole

  pub made-is : get_or ws (m.levels + m.bindings) 0 ≡ length tree.objects
  unfolding object_part
  made-is = third-head m hm tree whole ws words

  pub value-at : (h : ℕ) → h < length tree.objects → get_or ws (m.levels + m.bindings + 1 + h) 0 ≡ get_or tree.objects h 0
  unfolding decode
  value-at h l =
      sym (get_or-take (get_or ws (m.levels + m.bindings) 0) (drop (m.levels + m.bindings + 1) ws) h 0 (omega (arith, made-is))
      ∙ get_or-drop (m.levels + m.bindings + 1) ws h 0)

  parts : ws ≡ (level_part m tree ++ (bind_part m tree ++ (length tree.objects ∷ []))) ++ (tree.objects ++ replicate (m.objects - length tree.objects) 0)
  unfolding object_part pad
  parts = words ∙ encode-parts m hm tree whole ∙ regroup (level_part m tree) (bind_part m tree) (length tree.objects ∷ []) (tree.objects ++ replicate (m.objects - length tree.objects) 0)
    where
      regroup : (a b c d : List ℕ) → a ++ (b ++ (c ++ d)) ≡ (a ++ (b ++ c)) ++ d
      regroup a b c d = simp append_assoc

  front : length (level_part m tree ++ (bind_part m tree ++ (length tree.objects ∷ []))) ≡ m.levels + m.bindings + 1
  front =
      length-append (level_part m tree) (bind_part m tree ++ (length tree.objects ∷ []))
      ∙ ap₂ ◌+◌ (length-levels m hm tree whole) (length-append (bind_part m tree) (length tree.objects ∷ []) ∙ ap (λ (n : ℕ). n + 1) (length-binds m hm tree whole))
      ∙ sums m.levels m.bindings
    where
      sums : (a b : ℕ) → a + (b + 1) ≡ a + b + 1
      sums a b = omega arith

  -- one object set
  pub set_words : (h v : ℕ) → h < length tree.objects → set ws (m.levels + m.bindings + 1 + h) v ≡ encode m (with_objects tree (set tree.objects h v))
  unfolding encode pad level_part bind_part
  set_words h v l =
      ap₂ (λ (x : List ℕ) (n : ℕ). set x (n + h) v) parts (sym front)
      ∙ set-append-add (level_part m tree ++ (bind_part m tree ++ (length tree.objects ∷ []))) (tree.objects ++ replicate (m.objects - length tree.objects) 0) h v
      ∙ ap (λ (x : List ℕ). (level_part m tree ++ (bind_part m tree ++ (length tree.objects ∷ []))) ++ x)
      (set-append_left tree.objects (replicate (m.objects - length tree.objects) 0) h v l)
      ∙ regroup (level_part m tree) (bind_part m tree) (length tree.objects ∷ []) (set tree.objects h v ++ replicate (m.objects - length tree.objects) 0)
      ∙ ap (λ (n : ℕ). level_part m tree ++ (bind_part m tree ++ (n ∷ (set tree.objects h v ++ replicate (m.objects - n) 0)))) (sym (length-set tree.objects h v))
    where
      regroup : (a b c d : List ℕ) → (a ++ (b ++ c)) ++ d ≡ a ++ (b ++ (c ++ d))
      regroup a b c d = simp append_assoc

  module _ (h : ℕ) where
    module _ (l : h < get_or ws (m.levels + m.bindings) 0) where
      live : h < length tree.objects
      live = omega (arith, made-is)

      pub get-found : gives (get_or ws (m.levels + m.bindings + 1 + h) 0) ≡ value_of (decode m ws) h
      unfolding value_of
      get-found = rw (lt-ltb h (length tree.objects) live) (ap gives (value-at h live))

      pub set_found : (v : ℕ) → record { words = set ws (m.levels + m.bindings + 1 + h) v; said = gives tt } ≡ left m ws (done (set_value (decode m ws) h v))
      unfolding set_value
      set_found v = rw (lt-ltb h (length tree.objects) live) (λ i. record { words = set_words h v live i; said = gives tt })

    module _ (l : get_or ws (m.levels + m.bindings) 0 ≤ h) where
      dead : length tree.objects ≤ h
      dead = omega (arith, made-is)

      pub get_none : refuses 21 0 ≡ value_of (decode m ws) h
      unfolding value_of
      get_none = rw (le-ltb h (length tree.objects) dead)

      pub set-none : (v : ℕ) → record { words = ws; said = refuses 21 0 } ≡ left m ws (done (set_value (decode m ws) h v))
      unfolding set_value
      set-none v = rw (le-ltb h (length tree.objects) dead)

  pub long-enough : get_or ws (m.levels + m.bindings) 0 ≤ m.objects
  long-enough = rw made-is whole.objects
