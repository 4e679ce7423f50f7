-- By what the two passes told.
use mathlib.Core.Path.{ap, sym, subst, ◌∙◌}
use mathlib.Core.List.{map}
use Prim.Native.Nat.{ℕ, ◌+◌, ◌-◌, ◌≤◌}
use lib.ListN.{length, take, drop}
use lib.Seq.{length-take-le}
use Rattle.std.specs.Prelude.{Result, Ok}
use Rattle.table.specs.Layout.{binding_of}
use Rattle.table.specs.Edits.{last_of}
use Rattle.table.specs.Inside.{slot_in, slot_spot, Rising}
use Rattle.table.proofs.Spots.{spot-inside, spot-fits, spot-slot, spot-before, spot-missing}
use native.Mathlib.Omega.{arith}
use Rattle.table.proofs.inner.find_spot_in.Goals as goal

pub slice_bounds-seek-end : goal.slice_bounds-seek-end
slice_bounds-seek-end c = let p = c.args.path.now in sym (length-take-le (length p - 1) p (omega arith))

pub seek-requires : goal.seek-requires
seek-requires c =
    let p = c.args.path.now in
    (omega (arith, c.requires.0), omega (arith, length-take-le (length p - 1) p (omega arith), c.requires.2))

pub offset_bounds-levels-place : goal.offset_bounds-levels-place
offset_bounds-levels-place c =
    omega (arith, spot-inside c.args.levels.now c.args.bindings.now c.args.path.now c.requires.1 c.seek.result c.seek.ensures c.in-Here.place.level c.in-Here.place.binding c.in-Here.is)

pub bounds-levels-place : goal.bounds-levels-place
bounds-levels-place c =
    spot-inside c.args.levels.now c.args.bindings.now c.args.path.now c.requires.1 c.seek.result c.seek.ensures c.in-Here.place.level c.in-Here.place.binding c.in-Here.is

pub find_slot-requires : goal.find_slot-requires
find_slot-requires c =
    let a = c.args in
    let q = c.in-Here.place in
    subst (λ (n : ℕ). (q.binding + n ≤ length a.bindings.now) × Rising a.bindings.now q.binding n) (sym c.count-count.ensures)
    (spot-fits a.levels.now a.bindings.now a.path.now c.requires.1 c.seek.result c.seek.ensures c.requires.3 q.level q.binding c.in-Here.is)

pub returns-in-Ok : goal.returns-in-Ok
returns-in-Ok c =
    let a = c.args in
    let q = c.in-Here.place in
    ap (λ (r : Result ℕ ℕ). Ok (slot_spot q.level r)) (sym c.in-Ok.is)
    ∙ spot-slot a.levels.now a.bindings.now a.path.now c.requires.1 c.seek.result c.seek.ensures q.level q.binding c.in-Here.is
    c.find_slot.result (c.find_slot.ensures ∙ ap (λ (n : ℕ). slot_in (last_of a.path.now) (map binding_of (take n (drop q.binding a.bindings.now))) q.binding) c.count-count.ensures)

pub returns-in-Err : goal.returns-in-Err
returns-in-Err c =
    let a = c.args in
    let q = c.in-Here.place in
    ap (λ (r : Result ℕ ℕ). Ok (slot_spot q.level r)) (sym c.in-Err.is)
    ∙ spot-slot a.levels.now a.bindings.now a.path.now c.requires.1 c.seek.result c.seek.ensures q.level q.binding c.in-Here.is
    c.find_slot.result (c.find_slot.ensures ∙ ap (λ (n : ℕ). slot_in (last_of a.path.now) (map binding_of (take n (drop q.binding a.bindings.now))) q.binding) c.count-count.ensures)

pub returns-in-Before : goal.returns-in-Before
returns-in-Before c =
    spot-before c.args.levels.now c.args.bindings.now c.args.path.now c.requires.1 c.seek.result c.seek.ensures _ c.in-Before.is

pub returns-in-Missing : goal.returns-in-Missing
returns-in-Missing c =
    spot-missing c.args.levels.now c.args.bindings.now c.args.path.now c.requires.1 c.seek.result c.seek.ensures c.in-Missing.p c.in-Missing.is
