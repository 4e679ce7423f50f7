use Rattle.pkg_length.proofs.Laws.{Spelt}
use Rattle.pkg_length.proofs.inner.little_endian.Given as goal

abbrev pub invariant-loop-b : goal.invariant-loop-b
invariant-loop-b l = Spelt l.fn.bytes l.b-iterator.iter.rest.now l.value
