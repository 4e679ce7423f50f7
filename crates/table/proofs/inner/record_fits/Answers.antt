-- Test by test, the definition.
use mathlib.Core.Path.{ap, sym, ◌∙◌}
use mathlib.Core.Bool.{◌&&◌}
use Prim.Native.Nat.{ℕ}
use lib.Dec.{eqb}
use lib.ListN.{get_or}
use Rattle.name_object.specs.Component.{component_limit}
use Rattle.table.specs.Valid.{name_ok}
use Rattle.table.specs.Inside.{below, binds_ok}
use Rattle.table.proofs.Turns.{record-jumps, record-spare, record-low, record-nameless, record-binds, record-deepest}
use native.Mathlib.Omega.{arith}
use Rattle.table.proofs.inner.record_fits.Goals as goal
use Rattle.table.proofs.inner.record_fits.Goals.{
  then-p-rank-via-then-p-rank,
  then-p-rank-via-else-p-rank+then-rank-eq0,
  then-seg-low-via-then-seg-low,
  then-seg-low-via-else-seg-low+then-not-name_fits,
}

pub returns-then-p-rank : goal.returns-then-p-rank
returns-then-p-rank c =
    let a = c.args in
    let r = c.rank-rank.ensures in
    elim c.then-p-rank.branch [
      | then-p-rank-via-then-p-rank w ↦ sym (record-jumps component_limit (below a.made) a.p a.low.now a.word.0 a.bindings.now (omega (arith, r, w.if-p-rank.true)))
      | then-p-rank-via-else-p-rank+then-rank-eq0 w ↦ sym
          (record-spare component_limit (below a.made) a.p a.low.now a.word.0 a.bindings.now (omega (arith, r, w.if-p-rank.false)) (sym r ∙ w.if-rank-eq0.true))
    ]

pub returns-then-seg-low : goal.returns-then-seg-low
returns-then-seg-low c =
    let a = c.args in
    let r = c.rank-rank.ensures in
    let s = c.segment-seg.ensures in
    elim c.then-seg-low.branch [
      | then-seg-low-via-then-seg-low w ↦ sym
          (record-low component_limit (below a.made) a.p a.low.now a.word.0 a.bindings.now (omega (arith, r, c.if-p-rank.false)) (omega (arith, s, ap (λ (n : ℕ). get_or a.low.now n 0) r, w.if-seg-low.true)))
      | then-seg-low-via-else-seg-low+then-not-name_fits w ↦ sym
          (record-nameless component_limit (below a.made) a.p a.low.now a.word.0 a.bindings.now (omega (arith, r, c.if-p-rank.false))
          (sym (λ i. name_ok (r i) (s i) (w.typ.ensures i)) ∙ sym w.name_fits.ensures ∙ w.if-not-name_fits.true))
    ]

pub returns-then-rank-lt-COMPONENTS : goal.returns-then-rank-lt-COMPONENTS
returns-then-rank-lt-COMPONENTS c =
    let a = c.args in
    let r = c.rank-rank.ensures in
    let s = c.segment-seg.ensures in
    c.binds_fit.ensures ∙ ap (λ (n : ℕ). binds_ok (below a.made) n a.bindings.now) c.count.ensures
    ∙ sym (record-binds component_limit (below a.made) a.p a.low.now a.word.0 a.bindings.now (omega (arith, r, c.if-p-rank.false)) (λ e. c.if-rank-eq0.false (r ∙ e)) (omega (arith, s, ap (λ (n : ℕ). get_or a.low.now n 0) r, c.if-seg-low.false))
    (sym (λ i. name_ok (r i) (s i) (c.typ.ensures i)) ∙ sym c.name_fits.ensures ∙ c.if-not-name_fits.false) (omega (arith, r, c.if-rank-lt-COMPONENTS.true)))

pub returns-else-rank-lt-COMPONENTS : goal.returns-else-rank-lt-COMPONENTS
returns-else-rank-lt-COMPONENTS c =
    let a = c.args in
    let r = c.rank-rank.ensures in
    let s = c.segment-seg.ensures in
    c.deepest_fits.ensures ∙ (λ i. eqb (r i) component_limit && eqb (c.count-else-rank-lt-COMPONENTS.ensures i) 0)
    ∙ sym (record-deepest component_limit (below a.made) a.p a.low.now a.word.0 a.bindings.now (omega (arith, r, c.if-p-rank.false)) (λ e. c.if-rank-eq0.false (r ∙ e)) (omega (arith, s, ap (λ (n : ℕ). get_or a.low.now n 0) r, c.if-seg-low.false))
    (sym (λ i. name_ok (r i) (s i) (c.typ.ensures i)) ∙ sym c.name_fits.ensures ∙ c.if-not-name_fits.false) (omega (arith, r, c.if-rank-lt-COMPONENTS.false)))
