-- A scope whose level is not there holds none, and one whose level is there holds what its bindings do: so each turn leaves the innermost as it was.
use mathlib.Core.Path.{◌≡◌, ap, sym, subst, ◌∙◌}
use mathlib.Core.List.{map}
use Prim.Native.Nat.{ℕ, ◌+◌, ◌-◌, ◌<◌, ◌≤◌}
use lib.ListN.{length, take, drop, get_or}
use Rattle.table.specs.Layout.{binding_of}
use Rattle.table.specs.Inside.{nearest_of, deepest, value_held, slot_in, Rising, start}
use Rattle.table.specs.declared.inner.Place.{Place}
use Rattle.table.proofs.Child.{reached-slots, held-bound, held-free, deepest-found, deepest-on, trail-values}
use native.Mathlib.Omega.{arith}
use Rattle.table.proofs.inner.nearest_value.Goals as goal

back : (n : ℕ) → 0 < n → n - 1 + 1 ≡ n
back n h = omega arith

pub loop-i-init : goal.loop-i-init
loop-i-init c =
    let a = c.args in
    trail-values a.levels.now a.scope.now _ _ c.trail-there.ensures a.seg a.bindings.now

pub find_slot-requires : goal.find_slot-requires
find_slot-requires c =
    let a = c.args in
    let w = c.trail-there in
    let l = c.loop-i in
    let q : Place = get_or w.new.places (l.i - 1) start in
    subst (λ (n : ℕ). (q.binding + n ≤ length a.bindings.now) × Rising a.bindings.now q.binding n) (sym c.count-count.ensures)
    (reached-slots a.levels.now a.bindings.now a.scope.now (l.i - 1 + 1) q.level q.binding c.requires.2 (w.ensures.there (l.i - 1) (omega arith)) (omega arith) (omega (arith, w.ensures.short)))

pub returns-in-Ok : goal.returns-in-Ok
returns-in-Ok c =
    let a = c.args in
    let w = c.trail-there in
    let f = c.find_slot in
    let l = c.loop-i in
    let q : Place = get_or w.new.places (l.i - 1) start in
    let slot = f.ensures ∙ ap (λ (n : ℕ). slot_in a.seg (map binding_of (take n (drop q.binding a.bindings.now))) q.binding) c.count-count.ensures in
    ap nearest_of
    (sym (deepest-found (value_held a.levels.now a.bindings.now a.scope.now a.seg) (l.i - 1 + 1) c.in-Ok.handle (omega arith)
    (held-bound a.levels.now a.scope.now (l.i - 1 + 1) q.level q.binding (w.ensures.there (l.i - 1) (omega arith)) a.seg a.bindings.now
    (omega arith) (omega (arith, w.ensures.short)) c.in-Ok.handle (sym c.in-Ok.is ∙ slot)))
    ∙ ap (deepest (value_held a.levels.now a.bindings.now a.scope.now a.seg)) (back l.i c.loop-i-test.true)
    ∙ l.invariant)

pub loop-i-preserved : goal.loop-i-preserved
loop-i-preserved c =
    let a = c.args in
    let w = c.trail-there in
    let f = c.find_slot in
    let l = c.loop-i in
    let q : Place = get_or w.new.places (l.i - 1) start in
    let slot = f.ensures ∙ ap (λ (n : ℕ). slot_in a.seg (map binding_of (take n (drop q.binding a.bindings.now))) q.binding) c.count-count.ensures in
    sym (deepest-on (value_held a.levels.now a.bindings.now a.scope.now a.seg) (l.i - 1) 16 0
    (held-free a.levels.now a.scope.now (l.i - 1 + 1) q.level q.binding (w.ensures.there (l.i - 1) (omega arith)) a.seg a.bindings.now
    (omega arith) (omega (arith, w.ensures.short)) _ (sym c.in_default.is ∙ slot)))
    ∙ ap (deepest (value_held a.levels.now a.bindings.now a.scope.now a.seg)) (back l.i c.loop-i-test.true)
    ∙ l.invariant

pub returns : goal.returns
unfolding deepest
returns c =
    let a = c.args in
    let l = c.loop-i in
    let z : 0 ≡ l.i = omega arith in
    ap nearest_of (ap (deepest (value_held a.levels.now a.bindings.now a.scope.now a.seg)) z ∙ l.invariant)
