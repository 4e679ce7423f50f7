-- A level is added: by where the pass leads, the definition's answer, and the words of its tree.
use mathlib.Core.Path.{◌≡◌, refl, ap, sym, subst, subst₂, ◌∙◌}
use mathlib.Core.Logic.{◌⊎◌, inl, inr, ⊎_elim}
use mathlib.Core.Bool.{true, cond}
use mathlib.Core.List.{List, [], ◌∷◌, ◌++◌, append_assoc}
use Prim.Native.Nat.{ℕ, suc, ◌+◌, ◌-◌, ◌<◌, ◌≤◌}
use native.Mathlib.Omega.{arith}
use lib.Dec.{leb}
use lib.ListN.{length, take, drop, replicate, length-append}
use borrow.Author.Tests.{lt-leb, le-leb}
use Rattle.pkg_length.specs.Refusal.{Answer, gives, refuses, and_then}
use Rattle.table.specs.Limits.{Limits}
use Rattle.table.specs.Tree.{Binding, Forest, Tree, Level, bound, level_count, is_live}
use Rattle.table.specs.Layout.{pack, flat, pad}
use Rattle.table.specs.Valid.{segment_ok}
use Rattle.table.specs.Edits.{level_at, alter, last_of, has_level, insert_level, with_child, with_levels, add_level_answer}
use Rattle.table.specs.Inside.{Sought, here, before, missing, push}
use Rattle.table.proofs.Whole.{Whole, level-count}
use Rattle.table.proofs.Levels.{alter-some}
use Rattle.table.proofs.Seek.{seek_f, lacking, lacks, Shorter, shorter}
use Rattle.table.proofs.Focus.{Focus, focus}
use Rattle.table.proofs.Insert.{PutIn, put-length, put-around, put-words, insert-bound, insert-put, insert-valid, Has, has}
use Rattle.table.proofs.Held.{Split, split-last}
use Rattle.table.proofs.Moves.{pos-flat}
use Rattle.table.proofs.Facts.{one_less}

apart : {T : Type 0} {j n : ℕ} {s : Sought} → s ≡ missing n → s ≡ here j → T
apart a b = absurd (let z : ◌≡◌ {A = ℕ} 0 1 = cc in omega arith)

aside : {T : Type 0} {j n : ℕ} {s : Sought} → s ≡ missing n → s ≡ before j → T
aside a b = absurd (let z : ◌≡◌ {A = ℕ} 0 1 = cc in omega arith)

missing-same : {s : Sought} {k n : ℕ} → s ≡ missing k → s ≡ missing n → k ≡ n
missing-same a b = cc

-- The level that a path's last segment stands in is there, and the pass goes on among its children; or it is not, and the pass says so.
pub record There (m : Limits) (t : Tree) (p : List ℕ) (o : Split p) : Type 0 where
  pub at : ℕ
  pub level : Focus m.components (is_live t) t.levels 0 0 (o.first ∷ o.middle) 0 at 0
  pub on : seek_f t.levels p 0 0 0 ≡ seek_f level.kids (last_of p ∷ []) level.rank at (suc at)

pub record Lacks (t : Tree) (p : List ℕ) (o : Split p) : Type 0 where
  pub place : ℕ
  pub level : level_at 0 t.levels (o.first ∷ o.middle) ≡ refuses 15 place
  pub stop : seek_f t.levels p 0 0 0 ≡ missing place

pub parent : (m : Limits) (t : Tree) → Whole m t → (p : List ℕ) (o : Split p) → There m t p o ⊎ Lacks t p o
parent m t w p o =
    go (seek_f t.levels (o.first ∷ o.middle) 0 0 0) refl
    (lacks m.components (is_live t) t.levels 0 0 o.first o.middle 0 0 w.forest)
    (shorter t.levels 0 o.first o.middle (last_of p) [] 0 0)
  where
    all : seek_f t.levels p 0 0 0 ≡ seek_f t.levels (o.first ∷ (o.middle ++ (last_of p ∷ []))) 0 0 0
    all = ap (λ (l : List ℕ). seek_f t.levels l 0 0 0) o.all

    go : (x : Sought) → seek_f t.levels (o.first ∷ o.middle) 0 0 0 ≡ x → lacking 0 o.middle x (level_at 0 t.levels (o.first ∷ o.middle))
        → Shorter 0 o.middle x (seek_f t.levels (o.first ∷ (o.middle ++ (last_of p ∷ []))) 0 0 0) → There m t p o ⊎ Lacks t p o
    go (here i) e a b =
        let f = focus m.components (is_live t) t.levels 0 0 o.first o.middle 0 0 i w.forest e in
        inl (record { at = i; level = f; on = all ∙ f.through (last_of p ∷ []) })
    go (before i) e a b = inr (record { place = 0 + length o.middle; level = a; stop = all ∙ b })
    go (missing n) e a b = inr (record { place = n; level = a; stop = all ∙ b })

module _ (m : Limits) (t : Tree) (w : Whole m t) (p : List ℕ) (h : 1 < length p) (typ : ℕ) where
  unfoldable pub o : Split p
  o = split-last p h

  -- the definition, once the level around is known
  inside : (a : Answer Level) → level_at 0 t.levels (o.first ∷ o.middle) ≡ a
      → add_level_answer m t p typ ≡ and_then a (λ l. cond (has_level (last_of p) l.children) (gives t)
      (cond (leb m.levels (level_count t.levels)) (refuses 18 0) (gives (with_levels t (alter (with_child (last_of p) typ) t.levels (o.first ∷ o.middle))))))
  unfolding add_level_answer
  inside a e = rw (lt-leb (length p) 1 h, o.scope, e)

  module _ (f : There m t p o) where
    child : (x : Sought) → seek_f t.levels p 0 0 0 ≡ x → Has x (has_level (last_of p) f.level.kids)
    child x e =
        subst (λ (y : Sought). Has y (has_level (last_of p) f.level.kids)) (sym f.on ∙ e)
        (has m.components (is_live t) f.level.kids f.level.rank 0 (last_of p) f.at (suc f.at) f.level.valid.1)

  -- the level is there
  pub add-here : (j : ℕ) → seek_f t.levels p 0 0 0 ≡ here j → add_level_answer m t p typ ≡ gives t
  add-here j d = ⊎_elim found (λ f. apart f.stop d) (parent m t w p o)
    where
      found : There m t p o → add_level_answer m t p typ ≡ gives t
      found f = inside (gives (record { segment = f.level.seg; typ = f.level.typ; bindings = f.level.b; children = f.level.kids })) f.level.found ∙ rw (child f (here j) d)

  -- a level on the way is not
  pub add-missing : (n : ℕ) → seek_f t.levels p 0 0 0 ≡ missing n → add_level_answer m t p typ ≡ refuses 15 n
  add-missing n d = ⊎_elim (λ f. absurd (child f (missing n) d)) lost (parent m t w p o)
    where
      lost : Lacks t p o → add_level_answer m t p typ ≡ refuses 15 n
      lost f = inside (refuses 15 f.place) f.level ∙ ap (refuses 15) (missing-same f.stop d)

  -- it is not, and the level around it is
  module _ (j : ℕ) (d : seek_f t.levels p 0 0 0 ≡ before j) where
    unfoldable pub new : Forest
    new = alter (with_child (last_of p) typ) t.levels (o.first ∷ o.middle)

    there : There m t p o
    there = ⊎_elim (λ f. f) (λ f. aside f.stop d) (parent m t w p o)

    abbrev spot : Focus m.components (is_live t) t.levels 0 0 (o.first ∷ o.middle) 0 there.at 0
    spot = there.level

    unfoldable pub grown : Tree
    grown = with_levels t new

    pub add-before : add_level_answer m t p typ ≡ cond (leb m.levels (level_count t.levels)) (refuses 18 0) (gives grown)
    unfolding grown new
    add-before = inside (gives (record { segment = spot.seg; typ = spot.typ; bindings = spot.b; children = spot.kids })) spot.found ∙ rw (child there (before j) d)

    rank_is : suc spot.rank ≡ length p
    rank_is = omega (arith, spot.deep, o.long)

    put-kids : PutIn (flat (suc spot.rank) spot.kids) (flat (suc spot.rank) (insert_level (last_of p) typ spot.kids)) (pack (suc spot.rank) typ 0 (last_of p)) j (suc there.at)
    put-kids = insert-put spot.kids (last_of p) typ spot.rank there.at (suc there.at) j (sym there.on ∙ d)

    put : PutIn (flat 1 t.levels) (flat 1 new) (pack (length p) typ 0 (last_of p)) j 0
    unfolding new with_child flat
    put =
        subst (λ (n : ℕ). PutIn (flat 1 t.levels) (flat 1 new) (pack n typ 0 (last_of p)) j 0) rank_is
        (subst₂ (λ (x y : List ℕ). PutIn x y (pack (suc spot.rank) typ 0 (last_of p)) j 0) (sym was) (sym is)
        (put-around _ _ _ j (suc there.at) 0 (spot.pre ++ (word ∷ [])) (flat spot.rank spot.next ++ spot.post) put-kids
        (omega (arith, spot.at, length-append spot.pre (word ∷ [])))))
      where
        word : ℕ
        word = pack spot.rank spot.typ (length spot.b) spot.seg

        regroup : (a : List ℕ) (x : ℕ) (b c d : List ℕ) → a ++ (x ∷ (b ++ c) ++ d) ≡ a ++ (x ∷ []) ++ (b ++ (c ++ d))
        regroup a x b c d = simp append_assoc

        was : flat 1 t.levels ≡ spot.pre ++ (word ∷ []) ++ (flat (suc spot.rank) spot.kids ++ (flat spot.rank spot.next ++ spot.post))
        was = spot.was ∙ regroup spot.pre word (flat (suc spot.rank) spot.kids) (flat spot.rank spot.next) spot.post

        is : flat 1 new ≡ spot.pre ++ (word ∷ []) ++ (flat (suc spot.rank) (insert_level (last_of p) typ spot.kids) ++ (flat spot.rank spot.next ++ spot.post))
        is = spot.is (with_child (last_of p) typ) ∙ regroup spot.pre word (flat (suc spot.rank) (insert_level (last_of p) typ spot.kids)) (flat spot.rank spot.next) spot.post

    same-bound : bound new ≡ bound t.levels
    unfolding new with_child bound
    same-bound =
        spot.is_b (with_child (last_of p) typ)
        ∙ ap (λ (l : List Binding). spot.bpre ++ (spot.b ++ (l ++ bound spot.next) ++ spot.bpost)) (insert-bound (last_of p) typ spot.kids)
        ∙ sym spot.was_b

    pub add-place : j ≤ length (flat 1 t.levels)
    add-place = omega (arith, put.at, ap length put.before, length-append put.pre put.post)

    pub add-full : m.levels ≤ length (flat 1 t.levels) → add_level_answer m t p typ ≡ refuses 18 0
    add-full f = add-before ∙ rw (le-leb m.levels (level_count t.levels) (rw (level-count t.levels 1) at f))

    pub add-room : length (flat 1 t.levels) < m.levels → add_level_answer m t p typ ≡ gives grown
    add-room f = add-before ∙ rw (lt-leb m.levels (level_count t.levels) (rw (level-count t.levels 1) at f))

    -- the words with the new record in them
    pub add_words : (ls : List ℕ) → ls ≡ flat 1 t.levels ++ replicate (m.levels - length (flat 1 t.levels)) 0 → length (flat 1 t.levels) < m.levels
        → take j ls ++ push (pack (length p) typ 0 (last_of p)) (drop j ls) ≡ pad m.levels (flat 1 grown.levels)
    unfolding pad grown
    add_words ls e l =
        ap (λ (x : List ℕ). take j x ++ push (pack (length p) typ 0 (last_of p)) (drop j x)) (e ∙ ap (λ (n : ℕ). flat 1 t.levels ++ replicate n 0) (one_less (length (flat 1 t.levels)) m.levels l))
        ∙ put-words (flat 1 t.levels) (flat 1 new) (pack (length p) typ 0 (last_of p)) j (m.levels - suc (length (flat 1 t.levels))) (pos-flat m.components (is_live t) t.levels 1 0 w.forest) put
        ∙ ap (λ (n : ℕ). flat 1 new ++ replicate (m.levels - n) 0) (sym (put-length (flat 1 t.levels) (flat 1 new) (pack (length p) typ 0 (last_of p)) j 0 put))

    pub add-bound : bound grown.levels ≡ bound t.levels
    unfolding grown
    add-bound = same-bound

    -- the new tree is valid
    pub add-whole : typ < 6 → segment_ok (last_of p) ≡ true → length p ≤ m.components → length (flat 1 t.levels) < m.levels → Whole m grown
    unfolding grown new with_child
    add-whole ht hs hl f =
        record {
          rooted = alter-some (with_child (last_of p) typ) t.levels o.first o.middle (λ e s u b k n. refl) w.rooted;
          forest = spot.keeps (with_child (last_of p) typ) (
            spot.valid.0,
            insert-valid m.components (is_live t) (last_of p) typ spot.rank (omega (arith, spot.deep)) (omega (arith, rank_is)) hs ht spot.kids 0 there.at (suc there.at) j
                (omega arith) spot.valid.1 (sym there.on ∙ d),
            spot.valid.2,
          );
          levels = omega (arith, put-length (flat 1 t.levels) (flat 1 new) (pack (length p) typ 0 (last_of p)) j 0 put);
          bindings = rw same-bound w.bindings;
          objects = w.objects;
        }

pub add-root : (m : Limits) (t : Tree) (p : List ℕ) (typ : ℕ) → length p ≤ 1 → add_level_answer m t p typ ≡ gives t
unfolding add_level_answer
add-root m t p typ h = rw (le-leb (length p) 1 h)
