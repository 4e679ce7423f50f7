-- One record of the pass that tests memory.
use mathlib.Core.Path.{◌≡◌, ◌∙◌}
use mathlib.Core.Bool.{Bool, true, ◌&&◌}
use mathlib.Core.List.{List, ◌∷◌, map}
use Prim.Native.Nat.{ℕ, ◌+◌, ◌≤◌}
use native.Mathlib.Omega.{arith}
use lib.Dec.{leb}
use lib.ListN.{length, take, drop, get_or, length-map}
use lib.Seq.{length-take-le}
use borrow.Author.Tests.{le-leb, eq-eqb, ne_eqb, leb-true}
use Rattle.pkg_length.proofs.Answers.{halves}
use Rattle.name_object.specs.Memory.{all_zero}
use Rattle.table.specs.Layout.{rank_of, type_of, count_of, seg_of, binding_of}
use Rattle.table.specs.Inside.{word_ok, binds_ok, record_ok, noted, scan}
use Rattle.table.proofs.Shape.{LevelFit, fit}

-- what holds of a record that passes
pub record Passes (limit : ℕ) (live : ℕ → Bool) (p : ℕ) (low : List ℕ) (w : ℕ) (bs : List ℕ) : Type 0 where
  pub step : rank_of w ≤ p + 1
  pub held : count_of w ≤ length bs
  pub fits : LevelFit limit live (rank_of w) (get_or low (rank_of w) 0) (seg_of w) (type_of w) (map binding_of (take (count_of w) bs))

pub taken : (n : ℕ) (bs : List ℕ) → n ≤ length bs → length (map binding_of (take n bs)) ≡ n
taken n bs h = length-map (take n bs) binding_of ∙ length-take-le n bs h

module _ (limit : ℕ) (live : ℕ → Bool) (p : ℕ) (low : List ℕ) (w : ℕ) (ws bs : List ℕ) where
  pub scan-zero : w ≡ 0 → scan limit live p low (w ∷ ws) bs ≡ (all_zero ws && all_zero bs)
  unfolding scan
  scan-zero e = rw (eq-eqb w 0 e)

  pub scan-pass : Passes limit live p low w bs
      → scan limit live p low (w ∷ ws) bs ≡ scan limit live (rank_of w) (noted low w) ws (drop (count_of w) bs)
  unfolding scan record_ok binds_ok
  scan-pass h =
      let k : word_ok limit (get_or low (rank_of w) 0) w ≡ true = rw (taken (count_of w) bs h.held) at h.fits.ok in
      rw (ne_eqb w 0 (λ e. omega (arith, h.fits.ranked)), le-leb (rank_of w) (p + 1) h.step, k, le-leb (count_of w) (length bs) h.held, h.fits.ordered)

  pub scan-true : (w ≡ 0 → ⊥) → scan limit live p low (w ∷ ws) bs ≡ true
      → Passes limit live p low w bs × (scan limit live (rank_of w) (noted low w) ws (drop (count_of w) bs) ≡ true)
  unfolding scan record_ok binds_ok
  scan-true n e =
      let o = halves (record_ok limit live p low w bs) _ (rw (ne_eqb w 0 n) at e) in
      let b = halves _ (binds_ok live (count_of w) bs) o.0 in
      let a = halves (leb (rank_of w) (p + 1)) (word_ok limit (get_or low (rank_of w) 0) w) b.0 in
      let d = halves (leb (count_of w) (length bs)) _ b.1 in
      let held : count_of w ≤ length bs = leb-true _ _ d.0 in (
        record {
          step = leb-true _ _ a.0;
          held = held;
          fits = fit limit live (rank_of w) (get_or low (rank_of w) 0) (seg_of w) (type_of w) (map binding_of (take (count_of w) bs)) (rw (taken (count_of w) bs held) a.1) d.1;
        },
        o.1,
      )
