use mathlib.Core.Path.{◌≡◌}
use mathlib.Core.List.{◌++◌, map}
use lib.ListN.{take, drop}
use Rattle.namespace.specs.Listing.{word_record}
use Rattle.klem_c.specs.Levels.{packed_level}
use Rattle.klem_c.proofs.levels.fill.Given as goal

abbrev pub invariant-loop-i : goal.invariant-loop-i
invariant-loop-i l = l.list ≡ take l.i (map packed_level (map word_record l.words)) ++ drop l.i l.initial.list
