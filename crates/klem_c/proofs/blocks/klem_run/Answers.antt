-- Where the run began, its units and its frame are the meaning's; where the check refused the block, the frame stays.
use mathlib.Core.Path.{sym}
use Rattle.klem_c.proofs.Runs.{run-began, run-refused}
use Rattle.klem_c.proofs.blocks.klem_run.Goals as goal

pub returns-in-Ok-run : goal.returns-in-Ok-run
returns-in-Ok-run c =
    let a = c.args in
    let res = c.in-Some.ensures.cases in
    let frame = c.in-Some-as_mut_array.ensures.cases in
    run-began a.block.now a.frame.now a.budget a.res.now res.long frame.long c.in-Ok.f c.run.new.frame (rw frame.same at (sym c.in-Ok.ensures)) c.write.ensures
    c.in-Ok-run.run' c.in-Ok-run.ensures c.ran.ensures c.put_frame.ensures

pub returns-in-Err-run : goal.returns-in-Err-run
returns-in-Err-run c =
    let a = c.args in
    let res = c.in-Some.ensures.cases in
    let frame = c.in-Some-as_mut_array.ensures.cases in
    run-refused a.block.now a.frame.now a.budget a.res.now res.long frame.long c.in-Ok.f c.run.new.frame (rw frame.same at (sym c.in-Ok.ensures)) c.write-in-Err-run.ensures
    c.in-Err-run.e c.in-Err-run.ensures c.refused.ensures frame.same
