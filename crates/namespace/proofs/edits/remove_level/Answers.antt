-- One law for each answer, by what the pass told, on the keys as the slice has them.
use mathlib.Core.Path.{ap, sym}
use lib.ListN.{length}
use Rattle.table.specs.Limits.{limits}
use Rattle.table.proofs.Objects.{long}
use Rattle.table.proofs.LevelCalls.{length-ls, removed-root, removed-before, removed-missing, from_is, removed-place, run_fits, moved-long, moved-range, moved}
use native.Mathlib.Omega.{arith}
use Rattle.namespace.proofs.edits.remove_level.Goals as goal

pub returns-then-n-le1 : goal.returns-then-n-le1
returns-then-n-le1 c = rw (← c.as_slice-keys.ensures.is) (removed-root limits (omega arith) c.args.table.now c.requires c.as_slice-keys.result.now c.if-n-le1.true)

pub slice_bounds-seek-end : goal.slice_bounds-seek-end
slice_bounds-seek-end c = omega (arith, long limits (omega arith) c.args.table.now c.requires)

pub slice_bounds-seek-end-2 : goal.slice_bounds-seek-end-2
slice_bounds-seek-end-2 c = sym (length-ls limits (omega arith) c.args.table.now c.requires)

pub seek-requires : goal.seek-requires
seek-requires c = (omega (arith, length-ls limits (omega arith) c.args.table.now c.requires), omega (arith, c.as_slice-keys.ensures.keyed.short, ap length c.as_slice-keys.ensures.is))

pub slice_bounds-subtree_end-end : goal.slice_bounds-subtree_end-end
slice_bounds-subtree_end-end c = omega (arith, long limits (omega arith) c.args.table.now c.requires)

pub slice_bounds-subtree_end-end-in-Here : goal.slice_bounds-subtree_end-end-in-Here
slice_bounds-subtree_end-end-in-Here c = sym (length-ls limits (omega arith) c.args.table.now c.requires)

pub subtree_end-end-requires : goal.subtree_end-end-requires
subtree_end-end-requires c = (
  (removed-place limits (omega arith) c.args.table.now c.requires c.as_slice-keys.result.now (omega arith) c.seek.result c.seek.ensures c.in-Here.place.level c.in-Here.place.binding c.in-Here.is).0,
  omega (arith, length-ls limits (omega arith) c.args.table.now c.requires),
  from_is limits (omega arith) c.args.table.now c.requires c.as_slice-keys.result.now (omega arith) c.seek.result c.seek.ensures c.in-Here.place.level c.in-Here.place.binding c.in-Here.is,
)

pub slice_bounds-close_gap-end : goal.slice_bounds-close_gap-end
slice_bounds-close_gap-end c = omega (arith, long limits (omega arith) c.args.table.now c.requires)

pub slice_bounds-close_gap-end-in-Here : goal.slice_bounds-close_gap-end-in-Here
slice_bounds-close_gap-end-in-Here c = sym (length-ls limits (omega arith) c.args.table.now c.requires)

pub close_gap-requires : goal.close_gap-requires
close_gap-requires c =
    run_fits limits (omega arith) c.args.table.now c.requires c.as_slice-keys.result.now (omega arith) c.seek.result c.seek.ensures c.in-Here.place.level c.in-Here.place.binding c.in-Here.is c.subtree_end-end.result c.subtree_end-end.ensures

pub slice_bounds-close_gap-end-in-Here-2 : goal.slice_bounds-close_gap-end-in-Here-2
slice_bounds-close_gap-end-in-Here-2 c =
    moved-long limits (omega arith) c.args.table.now c.requires c.as_slice-keys.result.now (omega arith) c.seek.result c.seek.ensures c.in-Here.place.level c.in-Here.place.binding c.in-Here.is c.subtree_end-end.result c.subtree_end-end.ensures
    c.close_gap.new.xs c.close_gap.ensures

pub close_gap-requires-in-Here : goal.close_gap-requires-in-Here
close_gap-requires-in-Here c =
    moved-range limits (omega arith) c.args.table.now c.requires c.as_slice-keys.result.now (omega arith) c.seek.result c.seek.ensures c.in-Here.place.level c.in-Here.place.binding c.in-Here.is c.subtree_end-end.result c.subtree_end-end.ensures
    c.close_gap.new.xs c.close_gap.ensures

pub returns-in-Here : goal.returns-in-Here
returns-in-Here c =
    rw (← c.as_slice-keys.ensures.is)
    (moved limits (omega arith) c.args.table.now c.requires c.as_slice-keys.result.now (omega arith) c.seek.result c.seek.ensures c.in-Here.place.level c.in-Here.place.binding c.in-Here.is c.subtree_end-end.result c.subtree_end-end.ensures
    c.close_gap.new.xs c.close_gap.ensures _ c.close_gap-in-Here.ensures)

pub returns-in-Before : goal.returns-in-Before
returns-in-Before c =
    rw (← c.as_slice-keys.ensures.is) (removed-before limits (omega arith) c.args.table.now c.requires c.as_slice-keys.result.now (omega arith) c.seek.result c.seek.ensures _ c.in-Before.is)

pub returns-in-Missing : goal.returns-in-Missing
returns-in-Missing c =
    rw (← c.as_slice-keys.ensures.is) (removed-missing limits (omega arith) c.args.table.now c.requires c.as_slice-keys.result.now (omega arith) c.seek.result c.seek.ensures c.in-Missing.p c.in-Missing.is)
