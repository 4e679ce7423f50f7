-- What is left of the pass decides as the whole pass does.
use mathlib.Core.Path.{refl, ap, sym, ◌∙◌}
use mathlib.Core.Bool.{◌&&◌}
use Prim.Native.Nat.{ℕ, ◌+◌}
use lib.ListN.{drop, get_or, set, length-set}
use Rattle.name_object.specs.Component.{component_limit}
use Rattle.name_object.specs.Memory.{all_zero}
use Rattle.table.specs.Inside.{scan, lowest, below}
use Rattle.table.proofs.Facts.{tail-whole}
use Rattle.table.proofs.Turns.{passed, turn-zero, turn-unfit, turn-pass, turn_end}
use native.Mathlib.Omega.{arith}
use Rattle.table.proofs.inner.scan_levels.Goals as goal

pub loop-k-init : goal.loop-k-init
loop-k-init c = unfold lowest in (refl, omega arith, refl)

pub returns-then-all_spare : goal.returns-then-all_spare
returns-then-all_spare c =
    let l = c.loop-k in
    let a = c.args in
    c.all_spare-then-all_spare.ensures
    ∙ sym (turn-zero component_limit (below a.made) l.p l.low a.levels.now l.k l.left.now (omega arith) c.if-w-eq0.true
    ∙ ap (λ b. b && all_zero l.left.now) (sym (ap all_zero (tail-whole (l.k + 1) a.levels.now)) ∙ sym c.all_spare.ensures ∙ c.if-all_spare.true)) ∙ l.invariant.2

pub returns-else-all_spare : goal.returns-else-all_spare
returns-else-all_spare c =
    let l = c.loop-k in
    let a = c.args in
    c.if-all_spare.false
    ∙ sym (turn-zero component_limit (below a.made) l.p l.low a.levels.now l.k l.left.now (omega arith) c.if-w-eq0.true
    ∙ ap (λ b. b && all_zero l.left.now) (sym (ap all_zero (tail-whole (l.k + 1) a.levels.now)) ∙ sym c.all_spare.ensures ∙ c.if-all_spare.false)) ∙ l.invariant.2

pub returns-then-not-record_fits : goal.returns-then-not-record_fits
returns-then-not-record_fits c =
    let l = c.loop-k in
    let a = c.args in
    sym (turn-unfit component_limit (below a.made) l.p l.low a.levels.now l.k l.left.now (omega arith) c.if-w-eq0.false (sym c.record_fits.ensures ∙ c.if-not-record_fits.true)) ∙ l.invariant.2

pub bounds-low-p : goal.bounds-low-p
bounds-low-p c =
    let l = c.loop-k in
    omega (arith, c.rank-p.ensures, passed component_limit (below c.args.made) l.p l.low (get_or c.args.levels.now l.k 0) l.left.now (sym c.record_fits.ensures ∙ c.if-not-record_fits.false))

pub bounds-low-p-in-loop-k : goal.bounds-low-p-in-loop-k
bounds-low-p-in-loop-k c =
    let l = c.loop-k in
    omega (arith, c.rank-p.ensures, passed component_limit (below c.args.made) l.p l.low (get_or c.args.levels.now l.k 0) l.left.now (sym c.record_fits.ensures ∙ c.if-not-record_fits.false))

pub slice_bounds-left-count : goal.slice_bounds-left-count
slice_bounds-left-count c =
    let l = c.loop-k in
    omega (arith, c.count.ensures, passed component_limit (below c.args.made) l.p l.low (get_or c.args.levels.now l.k 0) l.left.now (sym c.record_fits.ensures ∙ c.if-not-record_fits.false))

pub slice_bounds-left-start : goal.slice_bounds-left-start
slice_bounds-left-start c =
    let l = c.loop-k in
    omega (arith, c.count.ensures, passed component_limit (below c.args.made) l.p l.low (get_or c.args.levels.now l.k 0) l.left.now (sym c.record_fits.ensures ∙ c.if-not-record_fits.false))

pub loop-k-preserved : goal.loop-k-preserved
loop-k-preserved c =
    let l = c.loop-k in
    let a = c.args in
    let fits = sym c.record_fits.ensures ∙ c.if-not-record_fits.false in
    let r = c.rank-p.ensures in
    let s = c.segment.ensures in
    let rest = tail-whole c.count.result l.left.now ∙ ap (λ (n : ℕ). drop n l.left.now) c.count.ensures in (
      simp length-set l.invariant.0,
      omega (arith, r, passed component_limit (below a.made) l.p l.low (get_or a.levels.now l.k 0) l.left.now fits),
      (λ i. scan component_limit (below a.made) (r i) (set (set l.low (r i) (s i + 1)) (r i + 1) 0) (drop (l.k + 1) a.levels.now) (rest i))
          ∙ sym (turn-pass component_limit (below a.made) l.p l.low a.levels.now l.k l.left.now (omega arith) c.if-w-eq0.false fits) ∙ l.invariant.2,
    )

pub returns : goal.returns
returns c =
    let l = c.loop-k in
    let a = c.args in
    c.all_spare-2.ensures ∙ sym (turn_end component_limit (below a.made) l.p l.low a.levels.now l.k l.left.now (omega arith)) ∙ l.invariant.2
