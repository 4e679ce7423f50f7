-- One law for each answer, by what the pass told, on the keys as the slice has them.
use mathlib.Core.Path.{ap, sym}
use lib.ListN.{length}
use Rattle.table.specs.Limits.{limits}
use Rattle.table.proofs.LevelCalls.{length-ls}
use Rattle.namespace.proofs.ListCalls.{run_end, below_at, below-here, below-short, below-before, below-missing}
use native.Mathlib.Omega.{arith}
use Rattle.namespace.proofs.listing.below.Goals as goal

pub slice_bounds-seek-end : goal.slice_bounds-seek-end
slice_bounds-seek-end c = sym (length-ls limits (omega arith) c.args.table.now.words.now c.args.table.now.formed)

pub seek-requires : goal.seek-requires
seek-requires c = (omega (arith, length-ls limits (omega arith) c.args.table.now.words.now c.args.table.now.formed), omega (arith, c.as_slice-keys.ensures.keyed.short, ap length c.as_slice-keys.ensures.is))

pub slice_bounds-subtree_end-end : goal.slice_bounds-subtree_end-end
slice_bounds-subtree_end-end c = sym (length-ls limits (omega arith) c.args.table.now.words.now c.args.table.now.formed)

pub subtree_end-requires : goal.subtree_end-requires
subtree_end-requires c =
    let x = below_at limits (omega arith) c.args.table.now.words.now c.args.table.now.formed c.args.room c.as_slice-keys.result.now (omega (arith, c.as_slice-keys.ensures.some, ap length c.as_slice-keys.ensures.is)) c.seek.result c.seek.ensures c.in-Here.place.level c.in-Here.place.binding c.in-Here.is in
    (x.0, omega (arith, length-ls limits (omega arith) c.args.table.now.words.now c.args.table.now.formed), x.1)

pub overflow_sub-count : goal.overflow_sub-count
overflow_sub-count c =
    let x = below_at limits (omega arith) c.args.table.now.words.now c.args.table.now.formed c.args.room c.as_slice-keys.result.now (omega (arith, c.as_slice-keys.ensures.some, ap length c.as_slice-keys.ensures.is)) c.seek.result c.seek.ensures c.in-Here.place.level c.in-Here.place.binding c.in-Here.is in
    omega (arith, x.2, run_end _ _ _ c.subtree_end.ensures)

pub returns-then-room-count : goal.returns-then-room-count
returns-then-room-count c =
    rw (← c.as_slice-keys.ensures.is) (below-short limits (omega arith) c.args.table.now.words.now c.args.table.now.formed c.args.room c.as_slice-keys.result.now (omega (arith, c.as_slice-keys.ensures.some, ap length c.as_slice-keys.ensures.is)) c.seek.result c.seek.ensures c.in-Here.place.level c.in-Here.place.binding c.in-Here.is c.subtree_end.result c.subtree_end.ensures c.if-room-count.true)

pub returns-else-room-count : goal.returns-else-room-count
returns-else-room-count c =
    rw (← c.as_slice-keys.ensures.is) (below-here limits (omega arith) c.args.table.now.words.now c.args.table.now.formed c.args.room c.as_slice-keys.result.now (omega (arith, c.as_slice-keys.ensures.some, ap length c.as_slice-keys.ensures.is)) c.seek.result c.seek.ensures c.in-Here.place.level c.in-Here.place.binding c.in-Here.is c.subtree_end.result c.subtree_end.ensures c.if-room-count.false)

pub returns-in-Before : goal.returns-in-Before
returns-in-Before c =
    rw (← c.as_slice-keys.ensures.is) (below-before limits (omega arith) c.args.table.now.words.now c.args.table.now.formed c.args.room c.as_slice-keys.result.now (omega (arith, c.as_slice-keys.ensures.some, ap length c.as_slice-keys.ensures.is)) c.seek.result c.seek.ensures _ c.in-Before.is)

pub returns-in-Missing : goal.returns-in-Missing
returns-in-Missing c =
    rw (← c.as_slice-keys.ensures.is) (below-missing limits (omega arith) c.args.table.now.words.now c.args.table.now.formed c.args.room c.as_slice-keys.result.now (omega (arith, c.as_slice-keys.ensures.some, ap length c.as_slice-keys.ensures.is)) c.seek.result c.seek.ensures c.in-Missing.p c.in-Missing.is)
