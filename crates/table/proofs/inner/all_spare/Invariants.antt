use mathlib.Core.Path.{◌≡◌}
use mathlib.Core.Bool.{◌&&◌}
use lib.Dec.{eqb}
use lib.ListN.{drop}
use Rattle.name_object.specs.Memory.{all_zero}
use Rattle.table.proofs.inner.all_spare.Given as goal

abbrev pub invariant-loop-word : goal.invariant-loop-word
invariant-loop-word l = (eqb l.seen 0 && all_zero (drop l.word-index l.words)) ≡ all_zero l.words
