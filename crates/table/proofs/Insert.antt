-- A new level among siblings: one word more among their words, and no binding moves.
use mathlib.Core.Path.{◌≡◌, refl, ap, ap₂, sym, ◌∙◌}
use mathlib.Core.Bool.{Bool, true, false, cond, ◌||◌}
use mathlib.Core.List.{List, [], ◌∷◌, ◌++◌, append_assoc}
use Prim.Native.Nat.{ℕ, suc, ◌+◌, ◌<◌, ◌≤◌}
use native.Mathlib.Omega.{arith}
use lib.Dec.{ltb, eqb}
use lib.ListN.{length, take, drop, replicate, length-append}
use lib.Seq.{take_at, drop_at}
use borrow.Author.Tests.{eqb-false, ltb-true, ltb-false, ne_eqb, lt-ltb}
use Rattle.table.specs.Tree.{Binding, Forest, none, level, bound}
use Rattle.table.specs.Layout.{pack, flat}
use Rattle.table.specs.Valid.{segment_ok, rising}
use Rattle.table.specs.Edits.{has_level, insert_level}
use Rattle.table.specs.Inside.{Sought, here, before, missing, gone, push}
use Rattle.table.proofs.Shape.{LevelFit, Valid, level-tests, tests-level, fit}
use Rattle.table.proofs.Seek.{after, after_is, seek_f, seek-nil}
use Rattle.table.proofs.Moves.{AllPos, put-pad}

-- what was and what is, one word w apart, which stands at index j where the first stands at k
pub record PutIn (was is : List ℕ) (w j k : ℕ) : Type 0 where
  pub pre : List ℕ
  pub post : List ℕ
  pub before : was ≡ pre ++ post
  pub now : is ≡ pre ++ (w ∷ post)
  pub at : j ≡ k + length pre

pub put-length : (was is : List ℕ) (w j k : ℕ) → PutIn was is w j k → length is ≡ suc (length was)
put-length was is w j k h =
    ap length h.now ∙ length-append h.pre (w ∷ h.post) ∙ sums (length h.pre) (length h.post) ∙ sym (ap suc (ap length h.before ∙ length-append h.pre h.post))
  where
    sums : (a b : ℕ) → a + suc b ≡ suc (a + b)
    sums a b = omega arith

-- words around do not matter
pub put-around : (was is : List ℕ) (w j k i : ℕ) (pre post : List ℕ) → PutIn was is w j k → k ≡ i + length pre → PutIn (pre ++ (was ++ post)) (pre ++ (is ++ post)) w j i
put-around was is w j k i pre post h e =
    record {
      pre = pre ++ h.pre;
      post = h.post ++ post;
      before = ap (λ (l : List ℕ). pre ++ (l ++ post)) h.before ∙ regroup pre h.pre h.post post;
      now = ap (λ (l : List ℕ). pre ++ (l ++ post)) h.now ∙ regroup pre h.pre (w ∷ h.post) post;
      at = omega (arith, h.at, length-append pre h.pre);
    }
  where
    regroup : (a b c d : List ℕ) → a ++ (b ++ c ++ d) ≡ a ++ b ++ (c ++ d)
    regroup a b c d = simp append_assoc

-- the code's carry puts the word in
pub put-words : (was is : List ℕ) (w j m : ℕ) → AllPos was → PutIn was is w j 0
    → take j (was ++ replicate (suc m) 0) ++ push w (drop j (was ++ replicate (suc m) 0)) ≡ is ++ replicate m 0
put-words was is w j m a h =
    ap (λ (l : List ℕ). take j l ++ push w (drop j l)) whole
    ∙ ap₂ {C = List ℕ} ◌++◌ (take_at h.pre (h.post ++ replicate (suc m) 0) j (omega (arith, h.at)))
    (ap (push w) (drop_at h.pre (h.post ++ replicate (suc m) 0) j (omega (arith, h.at))) ∙ put-pad w h.pre h.post m (rw h.before at a))
    ∙ sym (append_assoc h.pre (w ∷ h.post) (replicate m 0)) ∙ ap (λ (l : List ℕ). l ++ replicate m 0) (sym h.now)
  where
    whole : was ++ replicate (suc m) 0 ≡ h.pre ++ (h.post ++ replicate (suc m) 0)
    whole = ap (λ (l : List ℕ). l ++ replicate (suc m) 0) h.before ∙ append_assoc h.pre h.post (replicate (suc m) 0)

not-before : {i j : ℕ} {T : Type 0} → here i ≡ before j → T
not-before e = absurd (let z : ◌≡◌ {A = ℕ} 0 1 = cc in omega arith)

before_same : {i j : ℕ} → before i ≡ before j → i ≡ j
before_same e = cc

-- no binding moves
pub insert-bound : (s typ : ℕ) (f : Forest) → bound (insert_level s typ f) ≡ bound f
unfolding insert_level bound
insert-bound s typ none = refl
insert-bound s typ (level s' t b kids next) = go (insert-bound s typ next) (ltb s s')
  where
    go : bound (insert_level s typ next) ≡ bound next → (d : Bool)
        → bound (cond d (level s typ [] none (level s' t b kids next)) (level s' t b kids (insert_level s typ next))) ≡ b ++ (bound kids ++ bound next)
    go h true = refl
    go h false = ap (λ (l : List Binding). b ++ (bound kids ++ l)) h

-- the record is put in where the pass says
pub insert-put : (f : Forest) (s typ r at k j : ℕ) → seek_f f (s ∷ []) r at k ≡ before j
    → PutIn (flat (suc r) f) (flat (suc r) (insert_level s typ f)) (pack (suc r) typ 0 s) j k
unfolding seek_f insert_level flat gone
insert-put none s typ r at k j e = record { pre = []; post = []; before = refl; now = refl; at = omega (arith, before_same e) }
insert-put (level s' t b kids next) s typ r at k j e = go (insert-put next s typ r at (after kids (suc k)) j) (eqb s' s) (ltb s s') e
  where
    go : (seek_f next (s ∷ []) r at (after kids (suc k)) ≡ before j → PutIn (flat (suc r) next) (flat (suc r) (insert_level s typ next)) (pack (suc r) typ 0 s) j (after kids (suc k)))
        → (x y : Bool) → cond x (seek_f kids [] (suc r) k (suc k)) (cond y (before k) (seek_f next (s ∷ []) r at (after kids (suc k)))) ≡ before j
        → PutIn (pack (suc r) t (length b) s' ∷ (flat (suc (suc r)) kids ++ flat (suc r) next))
        (flat (suc r) (cond y (level s typ [] none (level s' t b kids next)) (level s' t b kids (insert_level s typ next)))) (pack (suc r) typ 0 s) j k
    go h true y e = not-before (sym (seek-nil kids (suc r) k (suc k)) ∙ e)
    go h false true e = record { pre = []; post = _; before = refl; now = refl; at = omega (arith, before_same e) }
    go h false false e =
        let g = h e in
        record {
          pre = pack (suc r) t (length b) s' ∷ (flat (suc (suc r)) kids ++ g.pre);
          post = g.post;
          before = ap (λ (l : List ℕ). pack (suc r) t (length b) s' ∷ l) (ap (λ (l : List ℕ). flat (suc (suc r)) kids ++ l) g.before ∙ sym (append_assoc (flat (suc (suc r)) kids) g.pre g.post));
          now = ap (λ (l : List ℕ). pack (suc r) t (length b) s' ∷ l) (ap (λ (l : List ℕ). flat (suc (suc r)) kids ++ l) g.now ∙ sym (append_assoc (flat (suc (suc r)) kids) g.pre (pack (suc r) typ 0 s ∷ g.post)));
          at = omega (arith, g.at, after_is kids (suc (suc r)) (suc k), length-append (flat (suc (suc r)) kids) g.pre);
        }

-- whether the level is there, by where the pass leads
abbrev pub Has : Sought → Bool → Type 0
Has (here j) x = x ≡ true
Has (before j) x = x ≡ false
Has (missing n) x = ⊥

module _ (limit : ℕ) (live : ℕ → Bool) where
  late-has : (f : Forest) (r lo s : ℕ) → Valid limit live r lo f → s < lo → has_level s f ≡ false
  unfolding has_level
  late-has none r lo s v h = refl
  late-has (level s' t b kids next) r lo s v h =
      rw (ne_eqb s' s (λ e. omega (arith, v.0.rises))) (late-has next r (suc s') s v.2 (omega (arith, v.0.rises)))

  pub has : (f : Forest) (r lo s at k : ℕ) → Valid limit live (suc r) lo f → Has (seek_f f (s ∷ []) r at k) (has_level s f)
  unfolding seek_f has_level gone
  has none r lo s at k v = refl
  has (level s' t b kids next) r lo s at k v = go (has next r (suc s') s at (after kids (suc k)) v.2) (eqb s' s) (ltb s s') refl
    where
      go : Has (seek_f next (s ∷ []) r at (after kids (suc k))) (has_level s next) → (x y : Bool) → ltb s s' ≡ y
          → Has (cond x (seek_f kids [] (suc r) k (suc k)) (cond y (before k) (seek_f next (s ∷ []) r at (after kids (suc k))))) (x || has_level s next)
      go h true y e = rw (seek-nil kids (suc r) k (suc k)) refl
      go h false true e = late-has next (suc r) (suc s') s v.2 (omega (arith, ltb-true s s' e))
      go h false false e = h

  -- siblings with a new level among them are valid
  lower : (r lo lo' s t : ℕ) (b : List Binding) → LevelFit limit live r lo s t b → lo' ≤ s → LevelFit limit live r lo' s t b
  lower r lo lo' s t b h l =
      let k = level-tests limit r lo s t (length b) h.ok in
      fit limit live r lo' s t b
      (tests-level limit r lo' s t (length b) (record { ranked = k.ranked; shallow = k.shallow; rises = l; named = k.named; counted = k.counted })) h.ordered

  pub weaker : (f : Forest) (r lo lo' : ℕ) → lo' ≤ lo → Valid limit live r lo f → Valid limit live r lo' f
  weaker none r lo lo' h v = tt
  weaker (level s t b kids next) r lo lo' h v = (lower r lo lo' s t b v.0 (omega (arith, v.0.rises)), v.1, v.2)

  module _ (s typ r : ℕ) (hr : 1 < suc r) (hl : suc r ≤ limit) (hs : segment_ok s ≡ true) (ht : typ < 6) where
    new-fit : (lo : ℕ) → lo ≤ s → LevelFit limit live (suc r) lo s typ []
    new-fit lo h =
        fit limit live (suc r) lo s typ []
        (tests-level limit (suc r) lo s typ 0
        (record { ranked = omega arith; shallow = hl; rises = h; named = rw (ne_eqb (suc r) 1 (λ e. omega arith), hs) (lt-ltb typ 6 ht); counted = none-fit (ltb (suc r) limit) }))
        (unfold rising in refl)
      where
        none-fit : (t : Bool) → cond t (ltb 0 1024) (eqb 0 0) ≡ true
        none-fit true = refl
        none-fit false = refl

    pub insert-valid : (f : Forest) (lo at k j : ℕ) → lo ≤ s → Valid limit live (suc r) lo f → seek_f f (s ∷ []) r at k ≡ before j → Valid limit live (suc r) lo (insert_level s typ f)
    unfolding seek_f insert_level gone
    insert-valid none lo at k j h v e = (new-fit lo h, tt, tt)
    insert-valid (level s' t b kids next) lo at k j h v e =
        go (λ d. insert-valid next (suc s') at (after kids (suc k)) j d v.2) (eqb s' s) (ltb s s') refl refl e
      where
        go : (suc s' ≤ s → seek_f next (s ∷ []) r at (after kids (suc k)) ≡ before j → Valid limit live (suc r) (suc s') (insert_level s typ next))
            → (x y : Bool) → eqb s' s ≡ x → ltb s s' ≡ y → cond x (seek_f kids [] (suc r) k (suc k)) (cond y (before k) (seek_f next (s ∷ []) r at (after kids (suc k)))) ≡ before j
            → Valid limit live (suc r) lo (cond y (level s typ [] none (level s' t b kids next)) (level s' t b kids (insert_level s typ next)))
        go i true y p q e = not-before (sym (seek-nil kids (suc r) k (suc k)) ∙ e)
        go i false true p q e = (new-fit lo h, tt, (lower (suc r) lo (suc s) s' t b v.0 (ltb-true s s' q), v.1, v.2))
        go i false false p q e = (v.0, v.1, i (omega (arith, ltb-false s s' q, eqb-false s' s p)) e)
