-- Calls fall by the depths left alone.
use Rattle.std.proofs.Common.{◌+◌, ◌*◌}
use Rattle.grammar.proofs.unread.Unread.+terms.Given as goal

abbrev pub decreases-one : goal.decreases-one
decreases-one l = 3 * l.left + 1

abbrev pub decreases-term_arg : goal.decreases-term_arg
decreases-term_arg l = 3 * l.left

abbrev pub decreases-two : goal.decreases-two
decreases-two l = 3 * l.left + 2
