-- By where the last segment is.
use mathlib.Core.Path.{ap, ◌∙◌}
use Rattle.std.specs.Prelude.{Ok}
use Rattle.pkg_length.proofs.Answers.{residual_as}
use Rattle.table.specs.Limits.{limits}
use Rattle.namespace.proofs.ValueCalls.{looked-bound, looked-free, looked-refused}
use native.Mathlib.Omega.{arith}
use Rattle.namespace.proofs.lent.Table.look_up.Goals as goal

pub returns-in_err-h : goal.returns-in_err-h
returns-in_err-h c =
    residual_as (λ h. h.0) c.from_residual.result c.in_err-h.field-0.0 c.from_residual.ensures
    ∙ looked-refused limits (omega arith) c.args.self.now.words.now c.args.self.now.formed c.args.path.now c.find_spot.result (rw c.as_slice.ensures.is at c.find_spot.ensures) c.in_err-h.field-0.0 c.in_err-h.was

pub returns-in-Bound : goal.returns-in-Bound
returns-in-Bound c =
    looked-bound limits (omega arith) c.args.self.now.words.now c.args.self.now.formed c.args.path.now c.find_spot.result (rw c.as_slice.ensures.is at c.find_spot.ensures) c.in-Bound.h (c.in_ok-h.was ∙ ap Ok c.in-Bound.is)

pub returns-in-Free : goal.returns-in-Free
returns-in-Free c =
    looked-free limits (omega arith) c.args.self.now.words.now c.args.self.now.formed c.args.path.now c.find_spot.result (rw c.as_slice.ensures.is at c.find_spot.ensures) _ (c.in_ok-h.was ∙ ap Ok c.in-Free.is)
