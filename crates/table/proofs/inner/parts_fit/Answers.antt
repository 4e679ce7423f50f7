-- The objects' part and the root first, then the pass over the records.
use mathlib.Core.Path.{ap, sym, ◌∙◌}
use Prim.Native.Nat.{◌+◌}
use lib.ListN.{get_or}
use Rattle.name_object.specs.Memory.{all_zero}
use Rattle.table.specs.Limits.{limits}
use Rattle.table.proofs.Facts.{tail-whole}
use Rattle.table.proofs.Turns.{parts-many, parts_loose, parts-bare, parts-scan}
use native.Mathlib.Omega.{arith}
use Rattle.table.proofs.inner.parts_fit.Goals as goal
use Rattle.table.proofs.inner.parts_fit.Goals.{then-made-via-then-made, then-made-via-else-made+then-levels-eq0}

pub returns-then-made : goal.returns-then-made
returns-then-made c =
    let a = c.args in
    elim c.then-made.branch [
      | then-made-via-then-made w ↦ sym (parts-many limits a.levels.now a.bindings.now a.objects.now (omega arith) w.if-made.true)
      | then-made-via-else-made+then-levels-eq0 w ↦ sym (parts-bare limits a.levels.now a.bindings.now a.objects.now (omega arith) w.if-levels-eq0.true)
    ]

pub returns-then-all_spare : goal.returns-then-all_spare
returns-then-all_spare c =
    let a = c.args in
    let os = a.objects.now in
    let made = get_or os 0 0 in
    let rest = tail-whole (made + 1) os in
    c.scan_levels.ensures
    ∙ sym (parts-scan limits a.levels.now a.bindings.now os (omega arith) c.if-made.false (sym (ap all_zero rest) ∙ sym c.all_spare.ensures ∙ c.if-all_spare.true) c.if-levels-eq0.false)

pub returns-else-all_spare : goal.returns-else-all_spare
returns-else-all_spare c =
    let a = c.args in
    let os = a.objects.now in
    let made = get_or os 0 0 in
    let rest = tail-whole (made + 1) os in
    c.if-all_spare.false
    ∙ sym (parts_loose limits a.levels.now a.bindings.now os (omega arith) c.if-made.false (sym (ap all_zero rest) ∙ sym c.all_spare.ensures ∙ c.if-all_spare.false))
