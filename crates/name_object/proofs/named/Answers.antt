-- No component is 7, too many are 9, and else the path is built.
use mathlib.Core.Path.{ap}
use Rattle.name_object.specs.Component.{component_limit}
use Rattle.name_object.specs.Memory.{told}
use Rattle.name_object.proofs.Answers.{named_none, named-over, named-whole}
use native.Mathlib.Omega.{arith}
use Rattle.name_object.proofs.named.Goals as goal

pub returns-then-pre-run-eq0 : goal.returns-then-pre-run-eq0
returns-then-pre-run-eq0 c =
    let a = c.args in
    ap (told component_limit) (named_none component_limit a.input.now a.pre a.run.from a.run.count c.requires.0 (omega arith))

pub returns-then-pre-run-gt-COMPONENTS : goal.returns-then-pre-run-gt-COMPONENTS
returns-then-pre-run-gt-COMPONENTS c =
    let a = c.args in
    ap (told component_limit) (named-over component_limit a.input.now a.pre a.run.from a.run.count c.requires.0 (omega arith))

pub returns : goal.returns
returns c =
    let a = c.args in
    named-whole component_limit a.input.now a.pre a.run.from a.run.count c.requires.0 _ c.build.ensures (λ e. omega arith) (omega arith)
