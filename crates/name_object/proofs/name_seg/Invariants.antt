use Rattle.name_object.proofs.Reading.{Begun}
use Rattle.name_object.proofs.name_seg.Given as goal

abbrev pub invariant-loop-k : goal.invariant-loop-k
invariant-loop-k l = Begun l.input l.at l.k
