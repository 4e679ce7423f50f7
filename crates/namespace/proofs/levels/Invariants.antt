-- What stands in the list: a record for each word so far, and behind them what stood there.
use Rattle.std.proofs.Common.{◌≡◌, ◌++◌, map, take, drop}
use Rattle.namespace.specs.Listing.{word_record}
use Rattle.namespace.proofs.levels.Given as goal

abbrev pub invariant-loop-i : goal.invariant-loop-i
invariant-loop-i l = l.list ≡ map word_record (take l.i l.words) ++ drop l.i l.initial.list
