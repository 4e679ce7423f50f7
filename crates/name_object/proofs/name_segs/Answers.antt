-- What is left to read, from where the loop stands, answers as the whole run does.
use mathlib.Core.Path.{◌∙◌}
use Rattle.pkg_length.proofs.Answers.{residual}
use Rattle.name_object.proofs.Reading.{reached-none, reached-more, reached-stop, reached-end}
use native.Mathlib.Omega.{arith}
use Rattle.name_object.proofs.name_segs.Goals as goal

pub loop-done-init : goal.loop-done-init
loop-done-init c = reached-none _ _ _ (omega arith)

pub loop-done-preserved : goal.loop-done-preserved
loop-done-preserved c = reached-more _ _ _ c.loop-done.at c.loop-done._done _ c.loop-done.invariant (omega arith) c.in_ok-at.ensures

pub returns-in_err-at : goal.returns-in_err-at
returns-in_err-at c =
    residual _ _ c.from_residual.ensures
    ∙ reached-stop _ _ _ c.loop-done.at c.loop-done._done _ _ c.loop-done.invariant (omega arith) c.in_err-at.ensures

pub returns : goal.returns
returns c = reached-end _ _ _ c.loop-done.at c.loop-done._done c.loop-done.invariant (omega arith)
