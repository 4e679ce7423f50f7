-- What a turn of each pass over the records does: the pass to a path, and the pass over what stands below a level.
use mathlib.Core.Path.{◌≡◌, refl, ap, sym, ◌∙◌}
use mathlib.Core.Bool.{Bool, true, false, cond}
use mathlib.Core.List.{List, [], ◌∷◌}
use Prim.Native.Nat.{ℕ, suc, ◌+◌, ◌*◌, ◌<◌, ◌≤◌}
use native.Mathlib.Omega.{arith}
use native.Mathlib.Numerals.{add-one}
use lib.Dec.{eqb}
use lib.ListN.{length, take, drop, get_or, drop_of_length-le, length-drop, length-take}
use lib.Seq.{drop-cons, take-suc}
use borrow.Author.Tests.{eqb-true, eqb-false}
use Rattle.table.specs.Layout.{rank_of, count_of}
use Rattle.table.specs.Inside.{gone, counts, run, placed, placed_gone_at}
use Rattle.table.specs.declared.inner.Sought.{Sought as Placed}
use Rattle.table.proofs.Focus.{counts-append}
use Rattle.table.proofs.Remove.{run_more, run-stop}

-- bindings counted on the way
pub counts-turn : (ws : List ℕ) (k : ℕ) → k < length ws → counts (take (k + 1) ws) ≡ counts (take k ws) + count_of (get_or ws k 0)
unfolding counts
counts-turn ws k h = rw (add-one k, take-suc ws k 0 h) (counts-append (take k ws) (get_or ws k 0 ∷ []) ∙ omega arith)

counts-bound : (ws : List ℕ) → counts ws ≤ 1023 * length ws
unfolding counts
counts-bound [] = omega arith
counts-bound (w ∷ ws) = omega (arith, counts-bound ws)

pub counts-low : (ws : List ℕ) (k : ℕ) → counts (take k ws) ≤ 1023 * k
counts-low ws k = omega (arith, counts-bound (take k ws), length-take k ws)

-- the pass to a path
pub gone_at : (ls path : List ℕ) (r j k : ℕ) → r ≡ j → j < length path → placed ls (gone (drop (suc j) path) r k) ≡ placed_gone_at (length path) j k
unfolding gone
gone_at ls path r j k q h = go (eqb (j + 1) (length path)) refl
  where
    many : (l : List ℕ) → (length l ≡ 0 → ⊥) → placed ls (gone l r k) ≡ Placed.Missing j
    many [] d = absurd (d refl)
    many (x ∷ l) d = ap Placed.Missing q

    go : (e : Bool) → eqb (j + 1) (length path) ≡ e → placed ls (gone (drop (suc j) path) r k) ≡ cond e (Placed.Before k) (Placed.Missing j)
    go true e = rw (drop_of_length-le path {i = suc j} (omega (arith, eqb-true (j + 1) (length path) e)))
    go false e = many (drop (suc j) path) (λ d. eqb-false (j + 1) (length path) e (omega (arith, length-drop (suc j) path)))

-- the pass over what stands below a level
module _ (r : ℕ) (ls : List ℕ) (e : ℕ) (h : e < length ls) where
  pub run_on : r < rank_of (get_or ls e 0) → e + 1 + run r (drop (e + 1) ls) ≡ e + run r (drop e ls)
  run_on l = rw (drop-cons ls e 0 h) (sym (ap (λ (n : ℕ). e + n) (run_more r (get_or ls e 0) (drop (suc e) ls) l) ∙ sums e (run r (drop (suc e) ls)) ∙ ap (λ (n : ℕ). e + 1 + run r (drop n ls)) (sym (add-one e))))
    where
      sums : (a b : ℕ) → a + suc b ≡ a + 1 + b
      sums a b = omega arith

  pub run-ended : rank_of (get_or ls e 0) ≤ r → e ≡ e + run r (drop e ls)
  run-ended l = rw (drop-cons ls e 0 h, run-stop r (get_or ls e 0) (drop (suc e) ls) l) (omega arith)

pub run_out : (r : ℕ) (ls : List ℕ) (e : ℕ) → length ls ≤ e → e ≡ e + run r (drop e ls)
unfolding run
run_out r ls e h = rw (drop_of_length-le ls h) (omega arith)
