-- The bits taken so far spell v; each turn takes those that the next byte has.
use borrow.Author.Rules.{rules}
use mathlib.Core.Path.{◌≡◌, refl, ap, ◌∙◌}
use Prim.Native.Nat.{ℕ, ◌+◌, ◌*◌}
use Rattle.image.specs.Bits.{number_of, number_at, bits_in}
use Rattle.image.proofs.Fields.{next-number, next_fits, number_fits}
use Rattle.image.proofs.bits.field.Goals as goal

pub loop-done-init : goal.loop-done-init
loop-done-init c = (unfold number_of in refl, search rules)

pub overflow_mul-v : goal.overflow_mul-v
overflow_mul-v c =
    let a = c.args in
    let l = c.loop-done in
    record {
      fits = next_fits a.bytes.now a.at l.done c.part-n.result (search rules) (search rules) (search rules) l.v
          c.power.result l.invariant.0 c.power.ensures (search rules);
    }

pub overflow_add-v : goal.overflow_add-v
overflow_add-v c =
    let a = c.args in
    let l = c.loop-done in
    let n = c.part-n.result in
    let step : l.v * c.power.result + c.taken.result ≡ number_at (bits_in a.bytes.now) (l.done + n) a.at =
    next-number a.bytes.now a.at l.done n (search rules) (search rules) (search rules) l.v c.power.result
    c.taken.result l.invariant.0 c.power.ensures c.taken.ensures in
    rw step (record { fits = number_fits (bits_in a.bytes.now) (l.done + n) a.at (search rules) })

pub loop-done-preserved : goal.loop-done-preserved
loop-done-preserved c =
    let a = c.args in
    let l = c.loop-done in
    let n = c.part-n.result in
    let step : l.v * c.power.result + c.taken.result ≡ number_at (bits_in a.bytes.now) (l.done + n) a.at =
    next-number a.bytes.now a.at l.done n (search rules) (search rules) (search rules) l.v c.power.result
    c.taken.result l.invariant.0 c.power.ensures c.taken.ensures in
    (step, search rules)

pub returns : goal.returns
returns c =
    let a = c.args in
    let l = c.loop-done in
    let full : l.done ≡ a.width = search rules in
    l.invariant.0 ∙ ap (λ (k : ℕ). number_at (bits_in a.bytes.now) k a.at) full
