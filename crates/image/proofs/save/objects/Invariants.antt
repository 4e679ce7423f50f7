use Rattle.image.specs.Bits.{bits}
use Rattle.image.proofs.Written.{Put}
use Rattle.image.proofs.save.objects.Given as goal

abbrev pub invariant-loop-value : goal.invariant-loop-value
invariant-loop-value l = Put (bits 64) 64 l.initial.out l.fn.at l.values l.value-index l.out l.at
