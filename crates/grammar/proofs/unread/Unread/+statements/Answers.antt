-- Each return is one law of Reaches.
use Rattle.std.proofs.Common.{◌-◌, ◌∙◌, length-drop, arith}
use Rattle.grammar.specs.Tree.{Stmt, return}
use Rattle.grammar.specs.Grammar.{depth_limit}
use Rattle.grammar.specs.Reader.{read_term, read_list, if_of, while_of, read_head, read_else, read_if}
use Rattle.grammar.proofs.Reaches.{residual}
use Rattle.grammar.proofs.Reaches as reaches
use Rattle.grammar.proofs.unread.Unread.+statements.Goals as goal

pub def_else-returns-in_err-term_list : goal.def_else-returns-in_err-term_list
def_else-returns-in_err-term_list t c =
    let n = c.next-behind in
    residual _ _ c.from_residual-in_err-term_list.ensures
    ∙ reaches.else-no-body _ _ _ c.in-len1-up.len_at_least c.if-first.false _ _ n.ensures.place n.ensures.bytes _ c.in_ok-package.ensures
    _ _ c.body.ensures.place c.body.ensures.bytes _ _ c.in_err-term_list.ensures

pub def_else-returns : goal.def_else-returns
def_else-returns t c =
    let n = c.next-behind in
    reaches.else-body _ _ _ c.in-len1-up.len_at_least c.if-first.false _ _ n.ensures.place n.ensures.bytes _ c.in_ok-package.ensures
    _ _ c.body.ensures.place c.body.ensures.bytes _ c.in_ok-term_list.ensures

pub def_if_else-returns : goal.def_if_else-returns
unfolding read_if
def_if_else-returns t c =
    reaches.goes_on _ _ _ _ _ _ (read_else (read_list c.args.left)) if_of _ c.in_ok-behind.ensures c.onward.ensures.place c.onward.ensures.bytes c.def_else.ensures

pub predicate_and_body-returns-in_err-body : goal.predicate_and_body-returns-in_err-body
predicate_and_body-returns-in_err-body t c =
    residual _ _ c.from_residual-in_err-body.ensures
    ∙ reaches.head-no-term _ _ _ _ c.in_ok-package.ensures _ _ c.onward-part.ensures.place c.onward-part.ensures.bytes _ _ c.in_err-body.ensures

pub predicate_and_body-returns-then-end-body : goal.predicate_and_body-returns-then-end-body
predicate_and_body-returns-then-end-body t c =
    rw c.new.ensures
    (reaches.head-short _ _ _ _ c.in_ok-package.ensures _ _ c.onward-part.ensures.place c.onward-part.ensures.bytes _ c.in_ok-body.ensures c.if-end-body.true)

pub predicate_and_body-returns-in_err-term_list : goal.predicate_and_body-returns-in_err-term_list
predicate_and_body-returns-in_err-term_list t c =
    residual _ _ c.from_residual-in_err-term_list.ensures
    ∙ reaches.head-no-body _ _ _ _ c.in_ok-package.ensures _ _ c.onward-part.ensures.place c.onward-part.ensures.bytes _ c.in_ok-body.ensures c.if-end-body.false
    _ _ c.body-part.ensures.place c.body-part.ensures.bytes _ _ c.in_err-term_list.ensures

pub predicate_and_body-returns : goal.predicate_and_body-returns
predicate_and_body-returns t c =
    reaches.head-body _ _ _ _ c.in_ok-package.ensures _ _ c.onward-part.ensures.place c.onward-part.ensures.bytes _ c.in_ok-body.ensures c.if-end-body.false
    _ _ c.body-part.ensures.place c.body-part.ensures.bytes _ c.in_ok-term_list.ensures

pub statement_opcode-returns-in-Return : goal.statement_opcode-returns-in-Return
statement_opcode-returns-in-Return t c =
    reaches.stmt-arm _ _ _ (omega (arith, c.if-left-eq0.false)) c.requires _ _ c.stmt_op.ensures c.in-Return.is _
    (reaches.next_one (read_term depth_limit) return _ _ _ _ _ c.next.ensures.place c.next.ensures.bytes c.term_arg.ensures)

pub statement_opcode-returns-in-If : goal.statement_opcode-returns-in-If
statement_opcode-returns-in-If t c =
    reaches.stmt-arm _ _ _ (omega (arith, c.if-left-eq0.false)) c.requires _ _ c.stmt_op.ensures c.in-If.is _
    (reaches.next_one (read_if (read_list (c.args.left - 1))) (λ (x : Stmt). x) _ _ _ _ _ c.next-in-If.ensures.place c.next-in-If.ensures.bytes c.def_if_else.ensures)

pub statement_opcode-returns-in-While : goal.statement_opcode-returns-in-While
statement_opcode-returns-in-While t c =
    reaches.stmt-arm _ _ _ (omega (arith, c.if-left-eq0.false)) c.requires _ _ c.stmt_op.ensures c.in-While.is _
    (reaches.next_one (read_head (read_list (c.args.left - 1))) while_of _ _ _ _ _ c.next-in-While.ensures.place c.next-in-While.ensures.bytes c.predicate_and_body.ensures)

pub statement_opcode-returns-in-Expr : goal.statement_opcode-returns-in-Expr
statement_opcode-returns-in-Expr t c =
    reaches.stmt-arm _ _ _ (omega (arith, c.if-left-eq0.false)) c.requires _ _ c.stmt_op.ensures c.in-Expr.is _
    (reaches.expr-here c.args.self.now.place c.args.self.now.bytes.now c.requires (read_list (c.args.left - 1)) _ c.term_arg-in-Expr.ensures)

pub term_list-loop-rest-smaller : goal.term_list-loop-rest-smaller
term_list-loop-rest-smaller t c =
    let u = c.loop-rest.rest in
    rw c.onward-rest.ensures.bytes
    (omega (arith, reaches.stmt_in c.args.left u.place u.bytes.now _ c.in_ok-behind.ensures, length-drop (c.in_ok-behind.behind - u.place) u.bytes.now))
