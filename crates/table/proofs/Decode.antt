-- What a forest is written as decodes to it, whatever follows: so words mean one forest.
use mathlib.Core.Path.{◌≡◌, refl, ◌∙◌}
use mathlib.Core.Bool.{Bool}
use mathlib.Core.List.{List, [], ◌∷◌, ◌++◌, append_assoc}
use Prim.Native.Nat.{ℕ, suc, ◌<◌, ◌^◌}
use native.Mathlib.Omega.{arith}
use lib.ListN.{length, take, drop}
use lib.Seq.{take-append_seam, drop-append_seam}
use borrow.Author.Tests.{lt-ltb, le-ltb, eq-eqb, ne_eqb}
use Rattle.table.specs.Tree.{Binding, Forest, none, level, bound}
use Rattle.table.specs.Layout.{pack, rank_of, type_of, count_of, seg_of, flat}
use Rattle.table.specs.Memory.{siblings}
use Rattle.table.proofs.Words.{rank-pack, type-pack, count-pack, seg-pack}
use Rattle.table.proofs.Shape.{Valid}

-- what follows a forest of rank r begins with a record of smaller rank
abbrev pub Below : ℕ → List ℕ → Type 0
Below r [] = Unit {0}
Below r (w ∷ ws) = rank_of w < r

module _ (r : ℕ) (w : ℕ) (ws : List ℕ) (bs : List Binding) where
  pub deeper : r < rank_of w → siblings r (w ∷ ws) bs ≡ siblings r ws (drop (count_of w) bs)
  unfolding siblings
  deeper h = rw (lt-ltb r (rank_of w) h)

  pub here : rank_of w ≡ r → siblings r (w ∷ ws) bs ≡ level (seg_of w) (type_of w) (take (count_of w) bs) (siblings (suc r) ws (drop (count_of w) bs)) (siblings r ws (drop (count_of w) bs))
  unfolding siblings
  here h = rw (le-ltb r (rank_of w) (omega arith), eq-eqb (rank_of w) r h)

  pub above : rank_of w < r → siblings r (w ∷ ws) bs ≡ none
  unfolding siblings
  above h = rw (le-ltb r (rank_of w) (omega arith), ne_eqb (rank_of w) r (λ e. omega arith))

ended : (r : ℕ) (ws : List ℕ) (bs : List Binding) → Below r ws → siblings r ws bs ≡ none
unfolding siblings
ended r [] bs h = refl
ended r (w ∷ ws) bs h = above r w ws bs h

module _ (q t s : ℕ) (b : List Binding) (X : List ℕ) (Y : List Binding) (ht : t < 8) (hn : length b < 1024) (hs : s < 2 ^ 32) where
  pack-deeper : (r : ℕ) → r < q → siblings r (pack q t (length b) s ∷ X) (b ++ Y) ≡ siblings r X Y
  pack-deeper r h =
      deeper r (pack q t (length b) s) X (b ++ Y) (rw (rank-pack q t (length b) s ht hn hs) h)
      ∙ rw (count-pack q t (length b) s ht hn hs, drop-append_seam b Y)

  pack-here : siblings q (pack q t (length b) s ∷ X) (b ++ Y) ≡ level s t b (siblings (suc q) X Y) (siblings q X Y)
  pack-here =
      here q (pack q t (length b) s) X (b ++ Y) (rank-pack q t (length b) s ht hn hs)
      ∙ rw (seg-pack q t (length b) s ht hn hs, type-pack q t (length b) s ht hn hs, count-pack q t (length b) s ht hn hs, take-append_seam b Y, drop-append_seam b Y)

module _ (limit : ℕ) (live : ℕ → Bool) where
  -- deeper records are passed over
  passed : (r q lo : ℕ) (f : Forest) (ws : List ℕ) (bs : List Binding) → r < q → Valid limit live q lo f → siblings r (flat q f ++ ws) (bound f ++ bs) ≡ siblings r ws bs
  unfolding flat bound
  passed r q lo none ws bs h v = refl
  passed r q lo (level s t b kids next) ws bs h v =
      rw (append_assoc b (bound kids ++ bound next) bs)
      (pack-deeper q t s b _ _ v.0.small v.0.few v.0.fits r h
      ∙ rw (append_assoc (flat (suc q) kids) (flat q next) ws, append_assoc (bound kids) (bound next) bs)
      (passed r (suc q) 0 kids (flat q next ++ ws) (bound next ++ bs) (omega arith) v.1 ∙ passed r q (suc s) next ws bs h v.2))

  pub below-flat : (r lo : ℕ) (f : Forest) (ws : List ℕ) → Valid limit live r lo f → Below r ws → Below (suc r) (flat r f ++ ws)
  unfolding flat
  below-flat r lo none [] v u = tt
  below-flat r lo none (w ∷ ws) v u = omega arith
  below-flat r lo (level s t b kids next) ws v u = omega (arith, rank-pack r t (length b) s v.0.small v.0.few v.0.fits)

  pub siblings-flat : (r lo : ℕ) (f : Forest) (ws : List ℕ) (bs : List Binding) → Valid limit live r lo f → Below r ws → siblings r (flat r f ++ ws) (bound f ++ bs) ≡ f
  unfolding flat bound
  siblings-flat r lo none ws bs v u = ended r ws bs u
  siblings-flat r lo (level s t b kids next) ws bs v u =
      rw (append_assoc b (bound kids ++ bound next) bs)
      (pack-here r t s b _ _ v.0.small v.0.few v.0.fits
      ∙ rw (
        append_assoc (flat (suc r) kids) (flat r next) ws,
        append_assoc (bound kids) (bound next) bs,
        siblings-flat (suc r) 0 kids (flat r next ++ ws) (bound next ++ bs) v.1 (below-flat r (suc s) next ws v.2 u),
        passed r (suc r) 0 kids (flat r next ++ ws) (bound next ++ bs) (omega arith) v.1,
        siblings-flat r (suc s) next ws bs v.2 u,
      ))

pub below-spare : (r n : ℕ) → 0 < r → Below r (lib.ListN.replicate n 0)
below-spare r Prim.Native.Nat.zero h = tt
below-spare r (suc n) h = omega arith
