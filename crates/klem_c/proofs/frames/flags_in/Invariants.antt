use mathlib.Core.Path.{◌≡◌}
use mathlib.Core.List.{◌++◌, map}
use lib.ListN.{take, drop}
use Rattle.grammar.specs.Grammar.{cells}
use Rattle.klem_c.specs.Frames.{is_set}
use Rattle.klem_c.proofs.frames.flags_in.Given as goal

abbrev pub invariant-loop-cell : goal.invariant-loop-cell
invariant-loop-cell l = l.set ≡ take l.cell (map is_set (take cells l.words)) ++ drop l.cell l.initial.set
