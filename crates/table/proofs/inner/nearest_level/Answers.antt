-- A scope whose level is not there holds none, and one whose level is there holds what its children do: so each turn leaves the innermost as it was.
use mathlib.Core.Path.{◌≡◌, ap, sym, ◌∙◌}
use mathlib.Core.Bool.{true, false}
use mathlib.Core.List.{List}
use Prim.Native.Nat.{ℕ, ◌+◌, ◌-◌, ◌<◌}
use lib.ListN.{drop, get_or}
use Rattle.std.specs.Prelude.{Result, Ok, Err}
use Rattle.std.specs.Result.{is_ok}
use Rattle.pkg_length.specs.Refusal.{gives, refuses}
use Rattle.table.specs.Inside.{child_in, depth_of, deepest, level_held, Reached, start}
use Rattle.table.specs.declared.inner.Place.{Place}
use Rattle.table.proofs.Child.{held-level, held_none, deepest-found, deepest-on, trail-levels}
use native.Mathlib.Omega.{arith}
use Rattle.table.proofs.inner.nearest_level.Goals as goal

back : (n : ℕ) → 0 < n → n - 1 + 1 ≡ n
back n h = omega arith

-- what a level that is there holds, by whether the child was found
module _ (ls p : List ℕ) (n at from : ℕ) (o : Reached ls p n at from) (s m : ℕ) where
  with-child : (r : Result Place ℕ) → r ≡ child_in (n + 1) s (drop (at + 1) ls) (at + 1) m → is_ok r ≡ true → level_held ls p s n ≡ gives tt
  with-child (Ok q) e h = held-level ls p n at from o s m q.level q.binding e
  with-child (Err i) e h = absurd (cc)

  without-child : (r : Result Place ℕ) → r ≡ child_in (n + 1) s (drop (at + 1) ls) (at + 1) m → is_ok r ≡ false → level_held ls p s n ≡ refuses 15 1
  without-child (Ok q) e h = absurd (cc)
  without-child (Err i) e h = held_none ls p n at from o s m i e

pub loop-i-init : goal.loop-i-init
loop-i-init c =
    let a = c.args in
    trail-levels a.levels.now a.scope.now _ _ c.trail-there.ensures a.seg

pub loop-i-preserved : goal.loop-i-preserved
loop-i-preserved c =
    let a = c.args in
    let l = c.loop-i in
    let q : Place = get_or c.trail-there.new.places (l.i - 1) start in
    sym (deepest-on (level_held a.levels.now a.scope.now a.seg) (l.i - 1) 15 1
    (without-child a.levels.now a.scope.now (l.i - 1 + 1) q.level q.binding (c.trail-there.ensures.there (l.i - 1) (omega arith)) a.seg 0 c.find_child.result c.find_child.ensures (sym c.is_ok.ensures.value ∙ c.if-is_ok.false)))
    ∙ ap (deepest (level_held a.levels.now a.scope.now a.seg)) (back l.i c.loop-i-test.true)
    ∙ l.invariant

pub returns-then-is_ok : goal.returns-then-is_ok
returns-then-is_ok c =
    let a = c.args in
    let l = c.loop-i in
    let q : Place = get_or c.trail-there.new.places (l.i - 1) start in
    ap depth_of
    (sym (deepest-found (level_held a.levels.now a.scope.now a.seg) (l.i - 1 + 1) tt (omega arith)
    (with-child a.levels.now a.scope.now (l.i - 1 + 1) q.level q.binding (c.trail-there.ensures.there (l.i - 1) (omega arith)) a.seg 0 c.find_child.result c.find_child.ensures (sym c.is_ok.ensures.value ∙ c.if-is_ok.true)))
    ∙ ap (deepest (level_held a.levels.now a.scope.now a.seg)) (back l.i c.loop-i-test.true)
    ∙ l.invariant)

pub returns : goal.returns
unfolding deepest
returns c =
    let a = c.args in
    let l = c.loop-i in
    let z : 0 ≡ l.i = omega arith in
    ap depth_of (ap (deepest (level_held a.levels.now a.scope.now a.seg)) z ∙ l.invariant)
