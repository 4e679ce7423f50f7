-- What is left decides as the whole does: the last word passed stands for the least segment that may come.
use mathlib.Core.Path.{◌≡◌, sym, ap, ◌∙◌}
use mathlib.Core.List.{List}
use Prim.Native.Nat.{ℕ, ◌+◌, ◌-◌, ◌*◌, ◌/◌, ◌^◌, ◌<◌, ◌≤◌}
use lib.ListN.{length, take, get_or}
use lib.Seq.{slice, get_or-take, length-take-le}
use Rattle.table.specs.Inside.{below}
use Rattle.table.proofs.Turns.{rest_ok, rest-low, rest-dead, rest-on, rest_end, binds-short, binds-rest}
use borrow.Author.Tests.{lt-ltb, le-ltb}
use native.Mathlib.Omega.{arith}
use Rattle.table.proofs.inner.binds_fit.Goals as goal
use Rattle.table.proofs.inner.binds_fit.Goals.{then-word-last-via-then-word-last, then-word-last-via-else-word-last+then-made-handle}

module _ (l : List ℕ) (n i : ℕ) (h : n ≤ length l) (k : i < length (take n l)) where
  inside : i < n
  inside = omega (arith, length-take-le n l h)

  same-word : get_or (take n l) i 0 ≡ get_or l i 0
  same-word = get_or-take n l i 0 inside

pub returns-then-bindings-n : goal.returns-then-bindings-n
returns-then-bindings-n c = let a = c.args in sym (binds-short (below a.made) a.n a.bindings.now (omega arith))

pub returns-then-word-last : goal.returns-then-word-last
returns-then-word-last c =
    let l = c.loop-word in
    let a = c.args in
    let room = c.if-bindings-n.false in
    let i = inside a.bindings.now a.n l.word-index room c.loop-word-test.true in
    let at = same-word a.bindings.now a.n l.word-index room c.loop-word-test.true in
    elim c.then-word-last.branch [
      | then-word-last-via-then-word-last w ↦ sym
          (binds-rest (below a.made) a.n a.bindings.now room ∙ sym l.invariant.2
          ∙ rest-low (below a.made) l.last l.word-index a.n a.bindings.now i room l.invariant.0 (omega (arith, at, w.if-word-last.true)))
      | then-word-last-via-else-word-last+then-made-handle w ↦ sym
          (binds-rest (below a.made) a.n a.bindings.now room ∙ sym l.invariant.2
          ∙ rest-dead (below a.made) l.last l.word-index a.n a.bindings.now i room l.invariant.0 (le-ltb _ _ (omega (arith, at, w.handle.ensures, w.if-made-handle.true))))
    ]

pub loop-word-preserved : goal.loop-word-preserved
loop-word-preserved c =
    let l = c.loop-word in
    let a = c.args in
    let room = c.if-bindings-n.false in
    let i = inside a.bindings.now a.n l.word-index room c.loop-word-test.true in
    let at = same-word a.bindings.now a.n l.word-index room c.loop-word-test.true in
    let s = c.segment.ensures ∙ ap (λ (w : ℕ). w / 2 ^ 32) at in (
      omega arith,
      omega (arith, c.segment.ensures, c.if-word-last.false, l.invariant.0, l.invariant.1),
      ap (λ (n : ℕ). rest_ok (below a.made) (n * 2 ^ 32 + (2 ^ 32 - 1)) (slice (l.word-index + 1) a.n a.bindings.now)) s
          ∙ rest-on (below a.made) l.last l.word-index a.n a.bindings.now i room l.invariant.0 l.invariant.1 (omega (arith, at, c.if-word-last.false)) (lt-ltb _ _ (omega (arith, at, c.handle.ensures, c.if-made-handle.false)))
          ∙ l.invariant.2,
    )

pub returns : goal.returns
returns c =
    let l = c.loop-word in
    let a = c.args in
    let room = c.if-bindings-n.false in
    sym (binds-rest (below a.made) a.n a.bindings.now room ∙ sym l.invariant.2 ∙ rest_end (below a.made) l.last l.word-index a.n a.bindings.now (omega (arith, length-take-le a.n a.bindings.now room)))
