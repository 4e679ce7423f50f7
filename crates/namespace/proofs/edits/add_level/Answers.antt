-- One law for each answer, by what the pass told, on the keys as the slice has them.
use mathlib.Core.Path.{◌≡◌, ap, sym, ◌∙◌}
use mathlib.Core.List.{◌++◌}
use Prim.Native.Nat.{ℕ, ◌+◌, ◌*◌, ◌^◌}
use lib.ListN.{length, take, drop}
use Rattle.table.specs.Limits.{limits}
use Rattle.table.specs.Edits.{last_of}
use Rattle.table.specs.Layout.{pack}
use Rattle.table.specs.Inside.{push}
use Rattle.table.proofs.Objects.{long}
use Rattle.table.proofs.LevelCalls.{length-ls, added-root, added-here, added-missing, added-place, added_new, added_full}
use Rattle.namespace.specs.Calls.{number_of_type}
use native.Mathlib.Omega.{arith}
use Rattle.namespace.proofs.edits.add_level.Goals as goal

packed : (n t s : ℕ) → pack n t 0 s ≡ n * 2 ^ 45 + t * 2 ^ 42 + s
unfolding pack
packed n t s = omega arith

pub returns-then-n-le1 : goal.returns-then-n-le1
returns-then-n-le1 c =
    rw (← c.as_slice-keys.ensures.is) (added-root limits (omega arith) c.args.table.now c.requires c.as_slice-keys.result.now (number_of_type c.args.typ) c.if-n-le1.true)

pub slice_bounds-seek-end : goal.slice_bounds-seek-end
slice_bounds-seek-end c = omega (arith, long limits (omega arith) c.args.table.now c.requires)

pub slice_bounds-seek-end-2 : goal.slice_bounds-seek-end-2
slice_bounds-seek-end-2 c = sym (length-ls limits (omega arith) c.args.table.now c.requires)

pub seek-requires : goal.seek-requires
seek-requires c = (omega (arith, length-ls limits (omega arith) c.args.table.now c.requires), omega (arith, c.as_slice-keys.ensures.keyed.short, ap length c.as_slice-keys.ensures.is))

pub bounds-table-127 : goal.bounds-table-127
bounds-table-127 c = omega (arith, long limits (omega arith) c.args.table.now c.requires)

pub slice_bounds-make_room-end : goal.slice_bounds-make_room-end
slice_bounds-make_room-end c = omega (arith, long limits (omega arith) c.args.table.now c.requires)

pub slice_bounds-make_room-end-in-Before : goal.slice_bounds-make_room-end-in-Before
slice_bounds-make_room-end-in-Before c = sym (length-ls limits (omega arith) c.args.table.now c.requires)

pub make_room-requires : goal.make_room-requires
make_room-requires c =
    added-place limits (omega arith) c.args.table.now c.requires c.as_slice-keys.result.now (number_of_type c.args.typ) (omega arith) c.seek.result c.seek.ensures (omega arith) c.in-Before.k c.in-Before.is

pub returns-in-Here : goal.returns-in-Here
returns-in-Here c =
    rw (← c.as_slice-keys.ensures.is) (added-here limits (omega arith) c.args.table.now c.requires c.as_slice-keys.result.now (number_of_type c.args.typ) (omega arith) c.seek.result c.seek.ensures _ _ c.in-Here.is)

pub returns-in-Missing : goal.returns-in-Missing
returns-in-Missing c =
    rw (← c.as_slice-keys.ensures.is) (added-missing limits (omega arith) c.args.table.now c.requires c.as_slice-keys.result.now (number_of_type c.args.typ) (omega arith) c.seek.result c.seek.ensures c.in-Missing.p c.in-Missing.is)

pub returns-then-table-ne0 : goal.returns-then-table-ne0
returns-then-table-ne0 c =
    rw (← c.as_slice-keys.ensures.is)
    (added_full limits (omega arith) c.args.table.now c.requires c.as_slice-keys.result.now (number_of_type c.args.typ) (omega arith) c.seek.result c.seek.ensures (omega arith) c.in-Before.k c.in-Before.is c.if-table-ne0.true)

pub returns-else-table-ne0 : goal.returns-else-table-ne0
returns-else-table-ne0 c =
    rw (← c.as_slice-keys.ensures.is)
    (added_new limits (omega arith) c.args.table.now c.requires c.as_slice-keys.result.now (number_of_type c.args.typ) (omega arith) c.seek.result c.seek.ensures (omega arith) c.in-Before.k c.in-Before.is c.if-table-ne0.false _
    (c.make_room.ensures ∙ ap (λ (w : ℕ). take c.in-Before.k (take limits.levels c.args.table.now) ++ push w (drop c.in-Before.k (take limits.levels c.args.table.now)))
    (c.packed_level-word.ensures ∙ ap (λ (t : ℕ). pack (length c.as_slice-keys.result.now) t 0 (last_of c.as_slice-keys.result.now)) c.from.ensures ∙ packed (length c.as_slice-keys.result.now) (number_of_type c.args.typ) (last_of c.as_slice-keys.result.now))))
