-- The cell is set and written, or it is not set.
use Rattle.statement.specs.Frames.{bits}
use Rattle.statement.proofs.Evals.{is-err, step-err, step-num}
use Rattle.statement.proofs.frame.Frame.step.Goals as goal

pub returns-in_err-n : goal.returns-in_err-n
returns-in_err-n c =
    let a = c.args in
    rw (is-err _ _ c.from_residual.ensures) (step-err (bits a.self.now.width) a.op a.cell a.self.now _ _ c.in_err-n.ensures)

pub returns : goal.returns
returns c =
    let a = c.args in
    step-num (bits a.self.now.width) a.op a.cell a.self.now _ _ _ c.in_ok-n.ensures c.stepped-number.ensures c.write.ensures
