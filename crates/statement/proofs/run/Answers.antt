-- The check's refusal, or the meaning of what it read.
use Rattle.std.proofs.Common.{◌≡◌, ℕ, ◌≤◌, List, ap, arith}
use Rattle.pkg_length.specs.Refusal.{Answer}
use Rattle.statement.specs.declared.frame.Frame.{Frame}
use Rattle.grammar.specs.Grammar.{depth_limit}
use Rattle.grammar.specs.Reader.{read_list}
use Rattle.statement.specs.Frames.{bits}
use Rattle.statement.specs.Meaning.{Ended, ran}
use Rattle.statement.specs.Lent.{ran_of}
use Rattle.statement.proofs.Units.{left_of}
use Rattle.statement.proofs.Evals.{is-err}
use Rattle.statement.proofs.Runs.{ran-left}
use Rattle.statement.proofs.Theorems.{run-ready, run-from-refusal, run-from-meaning}
use Rattle.statement.proofs.run.Goals as goal

-- no run makes units
used : (w : ℕ) (s : List ℕ) (f g : Frame) (budget u : ℕ) (a : Answer Ended) → ran g u a ≡ ran_of w (read_list depth_limit 0 s) f budget → u ≤ budget
unfolding left_of
used w s f g budget u a e = omega (arith, ran-left w (read_list depth_limit 0 s) f budget, ap left_of e)

pub returns-in_err-check : goal.returns-in_err-check
returns-in_err-check c =
    let a = c.args in
    rw (is-err _ _ c.from_residual.ensures) (run-from-refusal a.block.now a.frame.now a.budget _ c.in_err-check.ensures)

pub term_list-list-requires : goal.term_list-list-requires
term_list-list-requires c = (run-ready c.args.block.now c.in_ok-check.ensures).1

-- execution begins with the low bits of the frame's numbers
pub overflow_sub-result : goal.overflow_sub-result
overflow_sub-result c =
    let a = c.args in
    omega (arith, used (bits a.frame.now.width) a.block.now _ _ a.budget _ _ (rw c.begin.ensures at c.term_list-list.ensures))

pub returns : goal.returns
returns c =
    let a = c.args in
    run-from-meaning a.block.now a.frame.now a.budget _ _ _ _ c.in_ok-check.ensures (rw c.begin.ensures at c.term_list-list.ensures) c.ended.ensures
