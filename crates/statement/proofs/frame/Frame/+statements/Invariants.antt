use Rattle.std.proofs.Common.{◌≡◌, ◌+◌, ◌-◌, ◌*◌, ◌≤◌, length, drop}
use Rattle.grammar.specs.Grammar.{depth_limit}
use Rattle.grammar.specs.Reader.{read_term, read_list}
use Rattle.grammar.specs.Said.{Accepts}
use Rattle.statement.specs.Frames.{bits}
use Rattle.statement.specs.Lent.{ran_of, turns_by}
use Rattle.statement.proofs.frame.Frame.+statements.Given as goal

abbrev pub decreases-def_else : goal.decreases-def_else
decreases-def_else l = 5 * l.left + 2

abbrev pub decreases-def_if_else : goal.decreases-def_if_else
decreases-def_if_else l = 5 * l.left + 3

abbrev pub decreases-def_while : goal.decreases-def_while
decreases-def_while l = 5 * l.left + 4

abbrev pub decreases-statement_opcode : goal.decreases-statement_opcode
decreases-statement_opcode l = 5 * l.left

abbrev pub decreases-term_list : goal.decreases-term_list
decreases-term_list l = 5 * l.left + 1

-- what is left of the part runs as the whole does
abbrev pub invariant-term_list-loop-at : goal.invariant-term_list-loop-at
invariant-term_list-loop-at l =
    (l.at ≤ length l.part.bytes.now) × Accepts (read_list l.left 0 (drop l.at l.part.bytes.now)) ×
    (ran_of (bits l.initial.self.width) (read_list l.left 0 l.part.bytes.now) l.initial.self l.initial.units ≡ ran_of (bits l.self.width) (read_list l.left 0 (drop l.at l.part.bytes.now)) l.self l.units)

abbrev pub decreases-term_list-loop-at : goal.decreases-term_list-loop-at
decreases-term_list-loop-at l = length l.part.bytes.now - l.at

abbrev pub decreases-turn : goal.decreases-turn
decreases-turn l = 5 * l.left + 2

-- the turns from here on are those from the start
abbrev pub invariant-def_while-loop : goal.invariant-def_while-loop
invariant-def_while-loop l =
    turns_by l.left l.part.bytes.now l.end (l.at + l.p.used) (bits l.initial.self.width) (read_term depth_limit 0 (drop (l.at + l.p.used) l.part.bytes.now)) l.initial.self l.initial.units ≡
    turns_by l.left l.part.bytes.now l.end (l.at + l.p.used) (bits l.self.width) (read_term depth_limit 0 (drop (l.at + l.p.used) l.part.bytes.now)) l.self l.units

abbrev pub decreases-def_while-loop : goal.decreases-def_while-loop
decreases-def_while-loop l = l.units
