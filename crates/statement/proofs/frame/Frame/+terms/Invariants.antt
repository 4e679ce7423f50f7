use Rattle.std.proofs.Common.{◌+◌, ◌*◌}
use Rattle.statement.proofs.frame.Frame.+terms.Given as goal

abbrev pub decreases-eval : goal.decreases-eval
decreases-eval l = 4 * l.left + 1

abbrev pub decreases-one : goal.decreases-one
decreases-one l = 4 * l.left + 2

abbrev pub decreases-term_arg : goal.decreases-term_arg
decreases-term_arg l = 4 * l.left

abbrev pub decreases-two : goal.decreases-two
decreases-two l = 4 * l.left + 2
