-- Calls fall by the depths left alone. A list's loop holds that what is left reads as the whole does.
use Rattle.std.proofs.Common.{length, ◌≡◌, ◌+◌, ◌*◌}
use Rattle.grammar.specs.Reader.{read_list}
use Rattle.grammar.specs.Said.{read_through}
use Rattle.grammar.proofs.unread.Unread.+statements.Given as goal

abbrev pub decreases-def_else : goal.decreases-def_else
decreases-def_else l = 4 * l.left + 2

abbrev pub decreases-def_if_else : goal.decreases-def_if_else
decreases-def_if_else l = 4 * l.left + 3

abbrev pub decreases-predicate_and_body : goal.decreases-predicate_and_body
decreases-predicate_and_body l = 4 * l.left + 2

abbrev pub decreases-statement_opcode : goal.decreases-statement_opcode
decreases-statement_opcode l = 4 * l.left

abbrev pub decreases-term_list : goal.decreases-term_list
decreases-term_list l = 4 * l.left + 1

abbrev pub invariant-term_list-loop-rest : goal.invariant-term_list-loop-rest
invariant-term_list-loop-rest l =
    read_through (read_list l.left l.self.place l.self.bytes.now) ≡ read_through (read_list l.left l.rest.place l.rest.bytes.now)

abbrev pub decreases-term_list-loop-rest : goal.decreases-term_list-loop-rest
decreases-term_list-loop-rest l = length l.rest.bytes.now
