-- The components before i are of a kind, so that what is left decides.
use mathlib.Core.Path.{sym, ◌∙◌}
use Rattle.name_object.specs.Component.{component_limit}
use Rattle.path.proofs.Tests.{bytes-bad, bytes-turn, bytes-done, path-over, path-within}
use native.Mathlib.Omega.{arith}
use Rattle.path.proofs.valid.holds_path.Goals as goal

pub returns-then-name-gt-COMPONENTS : goal.returns-then-name-gt-COMPONENTS
returns-then-name-gt-COMPONENTS c = path-over component_limit c.args.name.now (omega arith)

pub loop-i-init : goal.loop-i-init
loop-i-init c = path-within component_limit c.args.name.now (omega arith)

pub loop-i-preserved : goal.loop-i-preserved
loop-i-preserved c =
    let name = c.args.name.now in
    let l = c.loop-i in
    bytes-turn name.bytes name.count l.i (omega arith) (rw c.component.ensures at (sym c.is_component.ensures ∙ c.if-not-is_component.false)) ∙ l.invariant

pub returns-then-not-is_component : goal.returns-then-not-is_component
returns-then-not-is_component c =
    let name = c.args.name.now in
    let l = c.loop-i in
    bytes-bad name.bytes name.count l.i (omega arith) (rw c.component.ensures at (sym c.is_component.ensures ∙ c.if-not-is_component.true)) ∙ l.invariant

pub returns : goal.returns
returns c =
    let name = c.args.name.now in
    let l = c.loop-i in
    c.is_zero_from.ensures ∙ bytes-done name.bytes name.count l.i (omega arith) (omega arith) ∙ l.invariant
