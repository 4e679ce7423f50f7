-- The memory is its three parts in a row.
use mathlib.Core.Path.{ap, sym, ◌∙◌}
use Prim.Native.Nat.{◌+◌, ◌-◌}
use lib.ListN.{length, take, drop, length-drop}
use lib.Seq.{length-take-le, take_all}
use borrow.Author.Tests.{eq-eqb, ne_eqb}
use Rattle.table.specs.Limits.{limits}
use Rattle.table.specs.Inside.{parts_ok}
use Rattle.table.proofs.Memory.{formed-test}
use native.Mathlib.Omega.{arith}
use Rattle.table.proofs.well_formed.Goals as goal

pub slice_bounds-parts_fit-end : goal.slice_bounds-parts_fit-end
slice_bounds-parts_fit-end c = sym (length-take-le limits.levels c.args.table.now (omega arith))

pub parts_fit-requires : goal.parts_fit-requires
parts_fit-requires c =
    let a = c.args in
    (length-take-le limits.levels a.table.now (omega arith), omega (arith, length-drop (limits.levels + limits.bindings) a.table.now))

pub returns-then-table-eq-WORDS : goal.returns-then-table-eq-WORDS
returns-then-table-eq-WORDS c =
    let ws = c.args.table.now in
    c.parts_fit.ensures ∙ sym (formed-test limits (omega arith) ws ∙ rw (eq-eqb _ _ c.if-table-eq-WORDS.true) (ap (parts_ok limits (take limits.levels ws) (take limits.bindings (drop limits.levels ws))) (sym (take_all (length ws - 640) (drop 640 ws) (omega (arith, length-drop (limits.levels + limits.bindings) ws))))))

pub returns-else-table-eq-WORDS : goal.returns-else-table-eq-WORDS
returns-else-table-eq-WORDS c = sym (formed-test limits (omega arith) c.args.table.now ∙ rw (ne_eqb _ _ c.if-table-eq-WORDS.false))
