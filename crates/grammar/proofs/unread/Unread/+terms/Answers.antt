-- Each return is one law of Reaches.
use Rattle.std.proofs.Common.{◌-◌, arith}
use Rattle.grammar.specs.Tree.{Term, step}
use Rattle.grammar.specs.Reader.{read_bytes, read_place, read_dest, operand, before, read_one, read_two, read_term, one_of, two_of}
use Rattle.grammar.proofs.Reaches as reaches
use Rattle.grammar.proofs.unread.Unread.+terms.Goals as goal

pub one-returns : goal.one-returns
unfolding read_one
one-returns t c =
    reaches.goes_on _ _ _ _ _ _ (read_dest c.args.d) operand _ c.in_ok-behind.ensures c.onward.ensures.place c.onward.ensures.bytes c.dest.ensures

pub term_arg-returns-in-Bytes : goal.term_arg-returns-in-Bytes
term_arg-returns-in-Bytes t c =
    reaches.term-arm _ _ _ (omega (arith, c.if-left-eq0.false)) c.in-len1-up.len_at_least _ _ c.term_op.ensures c.in-Bytes.is _
    (reaches.next_one (read_bytes c.in-Bytes.n) (λ (x : Term). x) _ _ _ _ _ c.next-behind.ensures.place c.next-behind.ensures.bytes c.constant.ensures)

pub term_arg-returns-in-Step : goal.term_arg-returns-in-Step
term_arg-returns-in-Step t c =
    reaches.term-arm _ _ _ (omega (arith, c.if-left-eq0.false)) c.in-len1-up.len_at_least _ _ c.term_op.ensures c.in-Step.is _
    (reaches.next_one read_place (step c.in-Step.field-0) _ _ _ _ _ c.next-behind.ensures.place c.next-behind.ensures.bytes c.cell.ensures)

pub term_arg-returns-in-One : goal.term_arg-returns-in-One
term_arg-returns-in-One t c =
    reaches.term-arm _ _ _ (omega (arith, c.if-left-eq0.false)) c.in-len1-up.len_at_least _ _ c.term_op.ensures c.in-One.is _
    (reaches.next_one (read_one (read_term (c.args.left - 1)) c.in-One.d) (one_of c.in-One.field-0) _ _ _ _ _ c.next-behind.ensures.place c.next-behind.ensures.bytes c.one.ensures)

pub term_arg-returns-in-Two : goal.term_arg-returns-in-Two
term_arg-returns-in-Two t c =
    reaches.term-arm _ _ _ (omega (arith, c.if-left-eq0.false)) c.in-len1-up.len_at_least _ _ c.term_op.ensures c.in-Two.is _
    (reaches.next_one (read_two (read_term (c.args.left - 1)) c.in-Two.d) (two_of c.in-Two.field-0) _ _ _ _ _ c.next-behind.ensures.place c.next-behind.ensures.bytes c.two.ensures)

pub two-returns : goal.two-returns
unfolding read_two
two-returns t c =
    reaches.goes_on _ _ _ _ _ _ (read_one (read_term c.args.left) c.args.d) before _ c.in_ok-behind.ensures c.onward.ensures.place c.onward.ensures.bytes c.one.ensures
