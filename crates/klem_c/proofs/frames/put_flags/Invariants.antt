use mathlib.Core.Path.{◌≡◌}
use mathlib.Core.List.{◌++◌, map}
use lib.ListN.{take, drop}
use Rattle.klem_c.specs.Result.{flag}
use Rattle.klem_c.proofs.frames.put_flags.Given as goal

abbrev pub invariant-loop-cell : goal.invariant-loop-cell
invariant-loop-cell l = l.words ≡ take l.cell (map flag l.set) ++ drop l.cell l.initial.words
