use Rattle.name_object.proofs.Reading.{Reached}
use Rattle.name_object.proofs.name_segs.Given as goal

abbrev pub invariant-loop-done : goal.invariant-loop-done
invariant-loop-done l = Reached l.input l.fn.run.from l.fn.run.count l.at l._done
