-- Where a path's last segment is bound or would be, over the words: what the code's pass tells.
use mathlib.Core.Path.{◌≡◌, refl, ap, sym, subst, ◌∙◌}
use mathlib.Core.Bool.{Bool, true, false, cond}
use mathlib.Core.List.{List, [], ◌∷◌, map}
use Prim.Native.Nat.{ℕ, zero, suc, ◌+◌, ◌-◌, ◌<◌, ◌≤◌}
use native.Mathlib.Omega.{arith}
use lib.Dec.{leb, ltb, eqb}
use lib.ListN.{length, take, drop, get_or, replicate}
use lib.Seq.{length-take-le}
use borrow.Author.Tests.{lt-leb, le-leb}
use Rattle.pkg_length.specs.declared.AmlError.{AmlError}
use Rattle.table.specs.Layout.{rank_of, count_of, seg_of, binding_of}
use Rattle.table.specs.Edits.{scope_of, last_of}
use Rattle.std.specs.Prelude.{Result, Ok, Err}
use Rattle.table.specs.Inside.{Sought, here, before, missing, gone, seek_in, counts, placed, slot_in, bindings_at, slot_spot, spot_from, spot_in, Rising, BindingsHeld}
use Rattle.table.specs.declared.inner.Sought.{Sought as Placed}
use Rattle.table.proofs.Focus.{gone-not}
use Rattle.table.proofs.LevelCalls.{placed-here, placed-before, placed-missing}

-- a record that is found is among the words: at is behind k, so whatever is found is below the end
pub inside : (ws p : List ℕ) (r at k j : ℕ) → at < k → seek_in p ws r at k ≡ here j → j < k + length ws
unfolding seek_in
inside ws [] r at k j h e = let d : at ≡ j = cc in omega arith
inside [] (s ∷ p) r at k j h e = absurd (gone-not p r k j e)
inside (w ∷ ws) (s ∷ p) r at k j h e =
    go (λ d. more (inside ws p (suc r) k (suc k) j (omega arith) d)) (λ d. more (inside ws (s ∷ p) r at (suc k) j (omega arith) d))
    (leb (rank_of w) r) (eqb (rank_of w) (suc r)) (eqb (seg_of w) s) (ltb s (seg_of w)) e
  where
    more : j < suc k + length ws → j < k + suc (length ws)
    more l = omega arith

    go : (seek_in p ws (suc r) k (suc k) ≡ here j → j < k + suc (length ws)) → (seek_in (s ∷ p) ws r at (suc k) ≡ here j → j < k + suc (length ws))
        → (a b c d : Bool) → cond a (gone p r k) (cond b (cond c (seek_in p ws (suc r) k (suc k)) (cond d (gone p r k) (seek_in (s ∷ p) ws r at (suc k)))) (seek_in (s ∷ p) ws r at (suc k))) ≡ here j
        → j < k + suc (length ws)
    go f g true b c d e = absurd (gone-not p r k j e)
    go f g false true true d e = f e
    go f g false true false true e = absurd (gone-not p r k j e)
    go f g false true false false e = g e
    go f g false false c d e = g e

-- from the start there is nothing behind: a path with a key is found below the end
pub inside-all : (ws : List ℕ) (p : List ℕ) (j : ℕ) → 0 < length p → seek_in p ws 0 0 0 ≡ here j → j < length ws
unfolding seek_in
inside-all ws [] j h e = absurd (omega arith)
inside-all [] (s ∷ p) j h e = absurd (gone-not p 0 0 j e)
inside-all (w ∷ ws) (s ∷ p) j h e =
    go (λ d. more (inside ws p 1 0 1 j (omega arith) d)) (λ d. more (inside ws (s ∷ p) 0 0 1 j (omega arith) d))
    (leb (rank_of w) 0) (eqb (rank_of w) 1) (eqb (seg_of w) s) (ltb s (seg_of w)) e
  where
    more : j < 1 + length ws → j < suc (length ws)
    more l = omega arith

    go : (seek_in p ws 1 0 1 ≡ here j → j < suc (length ws)) → (seek_in (s ∷ p) ws 0 0 1 ≡ here j → j < suc (length ws))
        → (a b c d : Bool) → cond a (gone p 0 0) (cond b (cond c (seek_in p ws 1 0 1) (cond d (gone p 0 0) (seek_in (s ∷ p) ws 0 0 1))) (seek_in (s ∷ p) ws 0 0 1)) ≡ here j
        → j < suc (length ws)
    go f g true b c d e = absurd (gone-not p 0 0 j e)
    go f g false true true d e = f e
    go f g false true false true e = absurd (gone-not p 0 0 j e)
    go f g false true false false e = g e
    go f g false false c d e = g e

-- the bindings of a record are among those that all records count
pub counted : (ls : List ℕ) (k : ℕ) → counts (take k ls) + count_of (get_or ls k 0) ≤ counts ls
unfolding counts
counted [] zero = omega arith
counted [] (suc k) = omega arith
counted (w ∷ ls) zero = omega arith
counted (w ∷ ls) (suc k) = omega (arith, counted ls k)

pub counts-spare : (n : ℕ) → counts (replicate n 0) ≡ 0
unfolding counts
counts-spare zero = refl
counts-spare (suc n) = omega (arith, counts-spare n)

-- what the code answers, by what its two passes told
module _ (ls bs p : List ℕ) (h : 1 < length p) (r : Placed) (e : r ≡ placed ls (seek_in (scope_of p) ls 0 0 0)) where
  below : (s : Sought) → seek_in (scope_of p) ls 0 0 0 ≡ s → spot_from ls bs p s ≡ spot_in ls bs p
  unfolding spot_in
  below s d = sym (rw (lt-leb (length p) 1 h, d))

  pub spot-inside : (a b : ℕ) → r ≡ Placed.Here (record { level = a; binding = b }) → a < length ls
  spot-inside a b d = inside-all ls (scope_of p) a (omega (arith, length-take-le (length p - 1) p (omega arith))) (placed-here ls (seek_in (scope_of p) ls 0 0 0) a b (sym e ∙ d)).0

  pub spot-from : (a b : ℕ) → r ≡ Placed.Here (record { level = a; binding = b }) → b ≡ counts (take a ls)
  spot-from a b d = (placed-here ls (seek_in (scope_of p) ls 0 0 0) a b (sym e ∙ d)).1

  pub spot-fits : BindingsHeld ls bs → (a b : ℕ) → r ≡ Placed.Here (record { level = a; binding = b }) → (b + count_of (get_or ls a 0) ≤ length bs) × Rising bs b (count_of (get_or ls a 0))
  spot-fits f a b d =
      subst (λ (x : ℕ). (x + count_of (get_or ls a 0) ≤ length bs) × Rising bs x (count_of (get_or ls a 0))) (sym (spot-from a b d))
      (f.held a, f.rise (scope_of p) a (omega (arith, length-take-le (length p - 1) p (omega arith))) (placed-here ls (seek_in (scope_of p) ls 0 0 0) a b (sym e ∙ d)).0)

  pub spot-slot : (a b : ℕ) → r ≡ Placed.Here (record { level = a; binding = b }) → (q : Result ℕ ℕ) → q ≡ slot_in (last_of p) (map binding_of (take (count_of (get_or ls a 0)) (drop b bs))) b → Ok (slot_spot a q) ≡ spot_in ls bs p
  spot-slot a b d q f =
      let x = placed-here ls (seek_in (scope_of p) ls 0 0 0) a b (sym e ∙ d) in
      ap (λ (r : Result ℕ ℕ). Ok (slot_spot a r)) (f ∙ same x.1) ∙ below (here a) x.0
    where
      same : b ≡ counts (take a ls) → slot_in (last_of p) (map binding_of (take (count_of (get_or ls a 0)) (drop b bs))) b ≡ slot_in (last_of p) (bindings_at ls bs a) (counts (take a ls))
      same x = unfold bindings_at in ap (λ (n : ℕ). slot_in (last_of p) (map binding_of (take (count_of (get_or ls a 0)) (drop n bs))) n) x

  pub spot-before : (k : ℕ) → r ≡ Placed.Before k → Err (AmlError.LevelDoesNotExist (length p - 1 - 1)) ≡ spot_in ls bs p
  spot-before k d = ap (λ (n : ℕ). Err (AmlError.LevelDoesNotExist n)) (two (length p)) ∙ below (before k) (placed-before ls (seek_in (scope_of p) ls 0 0 0) k (sym e ∙ d))
    where
      two : (n : ℕ) → n - 1 - 1 ≡ n - 2
      two n = omega arith

  pub spot-missing : (n : ℕ) → r ≡ Placed.Missing n → Err (AmlError.LevelDoesNotExist n) ≡ spot_in ls bs p
  spot-missing n d = below (missing n) (placed-missing ls (seek_in (scope_of p) ls 0 0 0) n (sym e ∙ d))

pub spot-root : (ls bs p : List ℕ) → length p ≤ 1 → Err AmlError.RootNotAllowed ≡ spot_in ls bs p
unfolding spot_in
spot-root ls bs p h = sym (rw (le-leb (length p) 1 h))
