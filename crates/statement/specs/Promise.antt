-- What the run promises.
use Rattle.std.specs.Prelude.{◌≡◌, ℕ, Bool, true, false, List, Result, Ok, Err}
use Rattle.pkg_length.specs.declared.AmlError.{AmlError}
use Rattle.pkg_length.specs.Refusal.{Answer, refuses, refused, said_as}
use Rattle.grammar.specs.Tree.{Stmts}
use Rattle.grammar.specs.Reader.{read_block}
use Rattle.grammar.specs.Promise.{Derives}
use Rattle.statement.specs.declared.End.{End}
use Rattle.statement.specs.declared.End.TheVariants.{Finished, Returned, BreakOut, ContinueOut}
use Rattle.statement.specs.declared.Execution.{Execution}
use Rattle.statement.specs.declared.frame.Frame.{Frame}
use Rattle.statement.specs.Meaning.{Ended, finished, returned, break_out, continue_out, Outcome, mean}

abbrev pub ended : End → Ended
ended Finished = finished
ended (Returned n) = returned n
ended BreakOut = break_out
ended ContinueOut = continue_out

abbrev pub end_said : Result End AmlError → Answer Ended
end_said e = said_as ended e

-- execution began, unless the check refused
abbrev pub began : Result Execution AmlError → Bool
began (Ok r) = true
began (Err e) = false

-- with the frame that is left; a refusal of the check has used no unit
abbrev pub run_said : Frame → Result Execution AmlError → Outcome
run_said g (Ok r) = record { end = end_said r.end; units = r.units; frame = g }
run_said g (Err e) = record { end = refused e; units = 0; frame = g }

-- a block that nothing derives is refused as the check refuses it, with the frame as it came and no unit used, and execution did not begin;
-- of any other it began, and the run is the meaning of its reading. f is the frame that came, g the one that is left
pub record HasRun (s : List ℕ) (f : Frame) (budget : ℕ) (g : Frame) (r : Result Execution AmlError) : Type 0 where
  pub stopped : (n p : ℕ) → read_block s ≡ refuses n p → began r ≡ false
  pub started : (t : Stmts) → Derives s t → began r ≡ true
  pub refusal : (n p : ℕ) → read_block s ≡ refuses n p → run_said g r ≡ record { end = refuses n p; units = 0; frame = f }
  pub meaning : (t : Stmts) → Derives s t → run_said g r ≡ mean t f budget
