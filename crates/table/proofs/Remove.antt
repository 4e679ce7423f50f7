-- A level goes, with everything below it: one run of records and one run of bindings.
use mathlib.Core.Path.{◌≡◌, refl, ap, ap₂, sym, subst, ◌∙◌}
use mathlib.Core.Bool.{Bool, true}
use mathlib.Core.List.{List, [], ◌∷◌, ◌++◌, append_assoc, map, map-append}
use Prim.Native.Nat.{ℕ, suc, ◌+◌, ◌-◌, ◌<◌, ◌≤◌}
use native.Mathlib.Omega.{arith}
use native.Mathlib.Nat.{add-zero}
use lib.ListN.{length, take, drop, get_or, replicate, length-append, length-map, replicate-append-replicate}
use lib.Seq.{take_at, drop_at, get_or_at}
use borrow.Author.Tests.{lt-ltb, le-ltb, lt-leb, le-leb}
use Rattle.pkg_length.specs.Refusal.{gives, refuses}
use Rattle.table.specs.Limits.{Limits}
use Rattle.table.specs.Tree.{Binding, Forest, none, level, Tree, Level, bound, is_live}
use Rattle.table.specs.Layout.{pack, rank_of, flat, pad, bind_word}
use Rattle.table.specs.Valid.{some}
use Rattle.table.specs.Edits.{level_at, alter, without, with_levels, remove_level_answer}
use Rattle.table.specs.Inside.{Sought, here, before, missing, counts, run, subtree_end, closed}
use Rattle.table.proofs.Words.{rank-pack, count-pack}
use Rattle.table.proofs.Shape.{Valid}
use Rattle.table.proofs.Decode.{Below, below-flat, below-spare}
use Rattle.table.proofs.Whole.{Whole, length-words}
use Rattle.table.proofs.Levels.{alter-some}
use Rattle.table.proofs.Seek.{seek_f, lacking, lacks}
use Rattle.table.proofs.Focus.{counts-append, counts-flat, Focus, focus}
use Rattle.table.proofs.Insert.{weaker}

pub run_more : (r w : ℕ) (ws : List ℕ) → r < rank_of w → run r (w ∷ ws) ≡ suc (run r ws)
unfolding run
run_more r w ws h = rw (lt-ltb r (rank_of w) h)

pub run-stop : (r w : ℕ) (ws : List ℕ) → rank_of w ≤ r → run r (w ∷ ws) ≡ 0
unfolding run
run-stop r w ws h = rw (le-ltb r (rank_of w) h)

run-below : (r : ℕ) (ws : List ℕ) → Below (suc r) ws → run r ws ≡ 0
run-below r [] u = unfold run in refl
run-below r (w ∷ ws) u = run-stop r w ws (omega arith)

run-flat : (limit : ℕ) (live : ℕ → Bool) (f : Forest) (q lo r : ℕ) (ws : List ℕ) → r < q → Valid limit live q lo f → run r (flat q f ++ ws) ≡ length (flat q f) + run r ws
unfolding flat
run-flat limit live none q lo r ws h v = omega arith
run-flat limit live (level s t b kids next) q lo r ws h v =
    rw (append_assoc (flat (suc q) kids) (flat q next) ws)
    (run_more r (pack q t (length b) s) (flat (suc q) kids ++ (flat q next ++ ws)) (rw (rank-pack q t (length b) s v.0.small v.0.few v.0.fits) h)
    ∙ ap suc (run-flat limit live kids (suc q) 0 r (flat q next ++ ws) (omega arith) v.1 ∙ ap (λ (n : ℕ). length (flat (suc q) kids) + n) (run-flat limit live next q (suc s) r ws h v.2))
    ∙ sums (length (flat (suc q) kids)) (length (flat q next)) (run r ws) _ (length-append (flat (suc q) kids) (flat q next)))
  where
    sums : (a b c n : ℕ) → n ≡ a + b → suc (a + (b + c)) ≡ suc n + c
    sums a b c n e = omega arith

-- a run M taken out of words with spare room
module _ (n : ℕ) (A M C xs : List ℕ) (z j e : ℕ) (w : xs ≡ A ++ (M ++ (C ++ replicate z 0))) (hz : z ≡ n - length (A ++ (M ++ C))) (hl : length (A ++ (M ++ C)) ≤ n)
    (hj : j ≡ length A) (he : e ≡ length A + length M) where
  long : length (A ++ (M ++ C)) ≡ length A + (length M + length C)
  long = simp length-append

  head-is : take j xs ≡ A
  head-is = ap (take j) w ∙ take_at A (M ++ (C ++ replicate z 0)) j (sym hj)

  tail-is : drop e xs ≡ C ++ replicate z 0
  tail-is = ap (drop e) (w ∙ sym (append_assoc A M (C ++ replicate z 0))) ∙ drop_at (A ++ M) (C ++ replicate z 0) e (length-append A M ∙ sym he)

  out-short : length (A ++ C) ≤ n
  out-short = omega (arith, long, length-append A C)

  out-pad : closed j e xs ≡ pad n (A ++ C)
  unfolding pad closed
  out-pad =
      ap₂ {C = List ℕ} (λ x y. x ++ (y ++ replicate (e - j) 0)) head-is tail-is
      ∙ ap (λ (x : List ℕ). A ++ x) (append_assoc C (replicate z 0) (replicate (e - j) 0) ∙ ap (λ (x : List ℕ). C ++ x) (replicate-append-replicate z (e - j) 0))
      ∙ sym (append_assoc A C (replicate (z + (e - j)) 0))
      ∙ ap (λ (k : ℕ). A ++ C ++ replicate k 0) spare
    where
      spare : z + (e - j) ≡ n - length (A ++ C)
      spare = omega (arith, long, length-append A C, hj, he, hz)

around : {T : Type 0} (a m c p z : List T) → a ++ (m ++ c ++ p) ++ z ≡ a ++ (m ++ (c ++ p ++ z))
around a m c p z = simp append_assoc

module _ (m : Limits) (t : Tree) (w : Whole m t) (p : List ℕ) (j : ℕ) (f : Focus m.components (is_live t) t.levels 0 0 p 0 j 0) (ls bs : List ℕ)
    (els : ls ≡ flat 1 t.levels ++ replicate (m.levels - length (flat 1 t.levels)) 0)
    (ebs : bs ≡ map bind_word (bound t.levels) ++ replicate (m.bindings - length (map bind_word (bound t.levels))) 0) where
  node : ℕ
  node = pack f.rank f.typ (length f.b) f.seg

  A : List ℕ
  A = f.pre

  M : List ℕ
  M = node ∷ flat (suc f.rank) f.kids

  C : List ℕ
  C = flat f.rank f.next ++ f.post

  Ab : List ℕ
  Ab = map bind_word f.bpre

  Mb : List ℕ
  Mb = map bind_word (f.b ++ bound f.kids)

  Cb : List ℕ
  Cb = map bind_word (bound f.next ++ f.bpost)

  z : ℕ
  z = m.levels - length (flat 1 t.levels)

  zb : ℕ
  zb = m.bindings - length (map bind_word (bound t.levels))

  -- the words, in three runs
  all-levels : flat 1 t.levels ≡ A ++ (M ++ C)
  unfolding A M C node flat
  all-levels = f.was ∙ ap (λ (x : List ℕ). f.pre ++ x) (regroup node (flat (suc f.rank) f.kids) (flat f.rank f.next) f.post)
    where
      regroup : (x : ℕ) (a b c : List ℕ) → (x ∷ (a ++ b)) ++ c ≡ (x ∷ a) ++ (b ++ c)
      regroup x a b c = simp append_assoc

  all-binds : map bind_word (bound t.levels) ≡ Ab ++ (Mb ++ Cb)
  unfolding Ab Mb Cb bound
  all-binds =
      ap (map bind_word) (f.was_b ∙ ap (λ (x : List Binding). f.bpre ++ x) (regroup f.b (bound f.kids) (bound f.next) f.bpost))
      ∙ map-append bind_word f.bpre ((f.b ++ bound f.kids) ++ (bound f.next ++ f.bpost))
      ∙ ap (λ (x : List ℕ). map bind_word f.bpre ++ x) (map-append bind_word (f.b ++ bound f.kids) (bound f.next ++ f.bpost))
    where
      regroup : (a b c d : List Binding) → (a ++ (b ++ c)) ++ d ≡ (a ++ b) ++ (c ++ d)
      regroup a b c d = simp append_assoc

  level-runs : ls ≡ A ++ (M ++ (C ++ replicate z 0))
  unfolding z
  level-runs = els ∙ ap (λ (x : List ℕ). x ++ replicate (m.levels - length (flat 1 t.levels)) 0) all-levels ∙ around3 A M C (replicate (m.levels - length (flat 1 t.levels)) 0)
    where
      around3 : (a b c d : List ℕ) → (a ++ (b ++ c)) ++ d ≡ a ++ (b ++ (c ++ d))
      around3 a b c d = simp append_assoc

  bind-runs : bs ≡ Ab ++ (Mb ++ (Cb ++ replicate zb 0))
  unfolding zb
  bind-runs = ebs ∙ ap (λ (x : List ℕ). x ++ replicate (m.bindings - length (map bind_word (bound t.levels))) 0) all-binds ∙ around3 Ab Mb Cb (replicate (m.bindings - length (map bind_word (bound t.levels))) 0)
    where
      around3 : (a b c d : List ℕ) → (a ++ (b ++ c)) ++ d ≡ a ++ (b ++ (c ++ d))
      around3 a b c d = simp append_assoc

  level-spare : z ≡ m.levels - length (A ++ (M ++ C))
  unfolding z
  level-spare = ap (λ (x : List ℕ). m.levels - length x) all-levels

  bind-spare : zb ≡ m.bindings - length (Ab ++ (Mb ++ Cb))
  unfolding zb
  bind-spare = ap (λ (x : List ℕ). m.bindings - length x) all-binds

  level-fits : length (A ++ (M ++ C)) ≤ m.levels
  level-fits = rw (← all-levels) w.levels

  bind-fits : length (Ab ++ (Mb ++ Cb)) ≤ m.bindings
  bind-fits = rw (← all-binds, length-words t.levels) w.bindings

  at-is : j ≡ length A
  unfolding A
  at-is = omega (arith, f.at)

  node-is : get_or ls j 0 ≡ node
  unfolding M
  node-is = ap (λ (x : List ℕ). get_or x j 0) level-runs ∙ get_or_at A node (flat (suc f.rank) f.kids ++ (C ++ replicate z 0)) 0 j (sym at-is)

  node-rank : rank_of (get_or ls j 0) ≡ f.rank
  unfolding node
  node-rank = ap rank_of node-is ∙ rank-pack f.rank f.typ (length f.b) f.seg f.valid.0.small f.valid.0.few f.valid.0.fits

  after-node : drop (j + 1) ls ≡ flat (suc f.rank) f.kids ++ (C ++ replicate z 0)
  unfolding M
  after-node =
      ap (drop (j + 1)) (level-runs ∙ sym (append_assoc A (node ∷ []) (flat (suc f.rank) f.kids ++ (C ++ replicate z 0))))
      ∙ drop_at (A ++ (node ∷ [])) (flat (suc f.rank) f.kids ++ (C ++ replicate z 0)) (j + 1) (omega (arith, length-append A (node ∷ []), at-is))

  rest_below : Below (suc f.rank) (C ++ replicate z 0)
  unfolding C
  rest_below =
      rw (append_assoc (flat f.rank f.next) f.post (replicate z 0))
      (below-flat m.components (is_live t) f.rank (suc f.seg) f.next (f.post ++ replicate z 0) f.valid.2 (f.below (replicate z 0) (below-spare 1 z (omega arith))))

  run_is : run (rank_of (get_or ls j 0)) (drop (j + 1) ls) ≡ length (flat (suc f.rank) f.kids)
  run_is =
      ap₂ run node-rank after-node
      ∙ run-flat m.components (is_live t) f.kids (suc f.rank) 0 f.rank (C ++ replicate z 0) (omega arith) f.valid.1
      ∙ ap (λ (n : ℕ). length (flat (suc f.rank) f.kids) + n) (run-below f.rank (C ++ replicate z 0) rest_below)
      ∙ add-zero (length (flat (suc f.rank) f.kids))

  end_is : subtree_end ls j ≡ length A + length M
  unfolding subtree_end M
  end_is = omega (arith, run_is, at-is)

  counts-A : counts A ≡ length Ab
  unfolding A Ab
  counts-A = f.off ∙ sym (length-map f.bpre bind_word)

  counts-M : counts M ≡ length Mb
  unfolding M Mb counts node
  counts-M =
      ap₂ ◌+◌ (count-pack f.rank f.typ (length f.b) f.seg f.valid.0.small f.valid.0.few f.valid.0.fits)
      (counts-flat m.components (is_live t) (suc f.rank) 0 f.kids f.valid.1)
      ∙ sym (length-append f.b (bound f.kids)) ∙ sym (length-map (f.b ++ bound f.kids) bind_word)

  from_is : counts (take j ls) ≡ length Ab
  from_is = ap counts (head-is m.levels A M C ls z j (subtree_end ls j) level-runs level-spare level-fits at-is end_is) ∙ counts-A

  to_is : counts (take (subtree_end ls j) ls) ≡ length Ab + length Mb
  to_is =
      ap counts (ap (take (subtree_end ls j)) (level-runs ∙ sym (append_assoc A M (C ++ replicate z 0))) ∙ take_at (A ++ M) (C ++ replicate z 0) (subtree_end ls j) (length-append A M ∙ sym end_is))
      ∙ counts-append A M ∙ ap₂ ◌+◌ counts-A counts-M

  pub place-fits : j < subtree_end ls j
  unfolding M
  place-fits = omega (arith, end_is, at-is)

  pub end_fits : subtree_end ls j ≤ m.levels
  end_fits = omega (arith, end_is, level-fits, long m.levels A M C ls z j (subtree_end ls j) level-runs level-spare level-fits at-is end_is)

  pub to-fits : counts (take (subtree_end ls j) ls) ≤ m.bindings
  to-fits = omega (arith, to_is, bind-fits, long m.bindings Ab Mb Cb bs zb (counts (take j ls)) (counts (take (subtree_end ls j) ls)) bind-runs bind-spare bind-fits from_is to_is)

  pub from-to : counts (take j ls) ≤ counts (take (subtree_end ls j) ls)
  from-to = omega (arith, from_is, to_is)

  -- the run of words of the level and everything below it
  pub level-run : take (subtree_end ls j - j) (drop j ls) ≡ pack f.rank f.typ (length f.b) f.seg ∷ flat (suc f.rank) f.kids
  unfolding M node
  level-run =
      ap (λ (x : List ℕ). take (subtree_end ls j - j) x) (ap (drop j) level-runs ∙ drop_at A (M ++ (C ++ replicate z 0)) j (sym at-is))
      ∙ take_at M (C ++ replicate z 0) (subtree_end ls j - j) (omega (arith, end_is, at-is))

  -- what is left
  left-levels : flat 1 (alter without t.levels p) ≡ A ++ C
  unfolding A C without
  left-levels = f.is without

  left-binds : map bind_word (bound (alter without t.levels p)) ≡ Ab ++ Cb
  unfolding Ab Cb without
  left-binds = ap (map bind_word) (f.is_b without) ∙ map-append bind_word f.bpre (bound f.next ++ f.bpost)

  pub removed-levels : closed j (subtree_end ls j) ls ≡ pad m.levels (flat 1 (alter without t.levels p))
  removed-levels = out-pad m.levels A M C ls z j (subtree_end ls j) level-runs level-spare level-fits at-is end_is ∙ ap (pad m.levels) (sym left-levels)

  pub removed-binds : closed (counts (take j ls)) (counts (take (subtree_end ls j) ls)) bs ≡ pad m.bindings (map bind_word (bound (alter without t.levels p)))
  removed-binds = out-pad m.bindings Ab Mb Cb bs zb _ _ bind-runs bind-spare bind-fits from_is to_is ∙ ap (pad m.bindings) (sym left-binds)

  pub removed-whole : 1 < length p → Whole m (with_levels t (alter without t.levels p))
  removed-whole h =
      record {
        rooted = root-stays p h;
        forest = f.keeps without (unfold without in weaker m.components (is_live t) f.next f.rank (suc f.seg) f.lo (omega (arith, f.valid.0.rises)) f.valid.2);
        levels = subst (λ (x : List ℕ). length x ≤ m.levels) (sym left-levels) (out-short m.levels A M C ls z j (subtree_end ls j) level-runs level-spare level-fits at-is end_is);
        bindings = subst (λ (n : ℕ). n ≤ m.bindings) (length-words (alter without t.levels p))
            (subst (λ (x : List ℕ). length x ≤ m.bindings) (sym left-binds) (out-short m.bindings Ab Mb Cb bs zb _ _ bind-runs bind-spare bind-fits from_is to_is));
        objects = w.objects;
      }
    where
      root-stays : (q : List ℕ) → 1 < length q → some (alter without t.levels q) ≡ true
      root-stays [] h = absurd (omega arith)
      root-stays (x ∷ q) h = alter-some without t.levels x q (λ e. absurd (omega arith)) w.rooted

-- the definition, by where the pass leads
module _ (m : Limits) (t : Tree) (w : Whole m t) where
  removed-yes : (p : List ℕ) (l : Level) → 1 < length p → level_at 0 t.levels p ≡ gives l → remove_level_answer t p ≡ gives (with_levels t (alter without t.levels p))
  unfolding remove_level_answer
  removed-yes p l h e = rw (lt-leb (length p) 1 h, e)

  pub remove-here : (p : List ℕ) (j : ℕ) → 1 < length p → seek_f t.levels p 0 0 0 ≡ here j
      → (Focus m.components (is_live t) t.levels 0 0 p 0 j 0) × (remove_level_answer t p ≡ gives (with_levels t (alter without t.levels p)))
  remove-here [] j h e = absurd (omega arith)
  remove-here (x ∷ q) j h e =
      let f = focus m.components (is_live t) t.levels 0 0 x q 0 0 j w.forest e in
      (f, removed-yes (x ∷ q) (record { segment = f.seg; typ = f.typ; bindings = f.b; children = f.kids }) h f.found)

  removed-not : (p : List ℕ) (n : ℕ) → 1 < length p → level_at 0 t.levels p ≡ refuses 15 n → remove_level_answer t p ≡ refuses 15 n
  unfolding remove_level_answer
  removed-not p n h e = rw (lt-leb (length p) 1 h, e)

  pub remove-before : (p : List ℕ) (j : ℕ) → 1 < length p → seek_f t.levels p 0 0 0 ≡ before j → remove_level_answer t p ≡ refuses 15 (length p - 1)
  remove-before [] j h e = absurd (omega arith)
  remove-before (x ∷ q) j h e =
      removed-not (x ∷ q) (suc (length q) - 1) h
      (subst (λ (s : Sought). lacking 0 q s (level_at 0 t.levels (x ∷ q))) e (lacks m.components (is_live t) t.levels 0 0 x q 0 0 w.forest) ∙ ap (refuses 15) (less (length q)))
    where
      less : (n : ℕ) → 0 + n ≡ suc n - 1
      less n = omega arith

  pub remove-missing : (p : List ℕ) (n : ℕ) → 1 < length p → seek_f t.levels p 0 0 0 ≡ missing n → remove_level_answer t p ≡ refuses 15 n
  remove-missing [] n h e = absurd (omega arith)
  remove-missing (x ∷ q) n h e =
      removed-not (x ∷ q) n h (subst (λ (s : Sought). lacking 0 q s (level_at 0 t.levels (x ∷ q))) e (lacks m.components (is_live t) t.levels 0 0 x q 0 0 w.forest))

pub remove-root : (t : Tree) (p : List ℕ) → length p ≤ 1 → remove_level_answer t p ≡ refuses 14 0
unfolding remove_level_answer
remove-root t p h = rw (le-leb (length p) 1 h)
