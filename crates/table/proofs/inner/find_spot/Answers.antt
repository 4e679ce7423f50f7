-- The table's parts.
use mathlib.Core.Path.{sym}
use lib.ListN.{take, drop}
use Rattle.table.specs.Limits.{limits}
use Rattle.table.proofs.Objects.{long}
use Rattle.table.proofs.LevelCalls.{length-ls}
use Rattle.table.proofs.BindCalls.{bindings-held}
use Rattle.table.proofs.Spots.{spot-root}
use native.Mathlib.Omega.{arith}
use Rattle.table.proofs.inner.find_spot.Goals as goal

pub returns-then-path-le1 : goal.returns-then-path-le1
returns-then-path-le1 c =
    let ws = c.args.table.now in
    spot-root (take limits.levels ws) (take limits.bindings (drop limits.levels ws)) c.args.path.now c.if-path-le1.true

pub slice_bounds-find_spot_in-end : goal.slice_bounds-find_spot_in-end
slice_bounds-find_spot_in-end c =
    let ws = c.args.table.now in
    sym (length-ls limits (omega arith) ws c.requires.0)

pub slice_bounds-find_spot_in-end-2 : goal.slice_bounds-find_spot_in-end-2
slice_bounds-find_spot_in-end-2 c =
    let ws = c.args.table.now in
    omega (arith, long limits (omega arith) ws c.requires.0)

pub find_spot_in-requires : goal.find_spot_in-requires
find_spot_in-requires c =
    let ws = c.args.table.now in
    (length-ls limits (omega arith) ws c.requires.0, c.if-path-le1.false, c.requires.1.short, bindings-held limits (omega arith) ws c.requires.0)
