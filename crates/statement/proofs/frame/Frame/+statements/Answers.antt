-- Each return is one law of Runs; what a call requires is a part of what was read. Calls fall by the depths left alone.
use Rattle.std.proofs.Common.{sym, refl, ◌∙◌, arith}
use Rattle.grammar.specs.Grammar.{depth_limit}
use Rattle.statement.specs.Frames.{bits}
use Rattle.statement.proofs.Evals as evals
use Rattle.statement.proofs.Runs as runs
use Rattle.statement.proofs.frame.Frame.+statements.Goals as goal

pub def_else-else_at-requires : goal.def_else-else_at-requires
def_else-else_at-requires t c =
    let a = c.args in
    (c.requires.0, runs.else-held a.left a.at a.part.bytes.now c.requires.1)

pub def_else-returns-in_default : goal.def_else-returns-in_default
def_else-returns-in_default t c =
    let a = c.args in
    let f = a.self.now in
    runs.else-none (bits f.width) a.left a.at a.part.bytes.now f a.units.now (rw c.in_default.is at c.else_at.ensures) c.requires.0

pub def_else-term_list-requires : goal.def_else-term_list-requires
def_else-term_list-requires t c =
    let a = c.args in
    let e = c.in-Some.ensures in
    (omega (arith, c.decreases), rw c.body.ensures (runs.else-acc a.left a.at a.part.bytes.now e.0 e.1 c.requires.1 e.2))

pub def_else-returns-in_err-term_list : goal.def_else-returns-in_err-term_list
def_else-returns-in_err-term_list t c =
    let a = c.args in
    let f = a.self.now in
    let e = c.in-Some.ensures in
    rw (evals.is-err _ _ c.from_residual.ensures)
    (runs.else-ran a.left a.at a.part.bytes.now e.0 e.1 c.requires.1 e.2 (bits f.width) f a.units.now _ _ (runs.out-way _ c.in_err-term_list.field-0.0 _ _) (rw c.body.ensures at c.in_err-term_list.ensures))

pub def_else-returns : goal.def_else-returns
def_else-returns t c =
    let a = c.args in
    let f = a.self.now in
    let e = c.in-Some.ensures in
    runs.else-ran a.left a.at a.part.bytes.now e.0 e.1 c.requires.1 e.2 (bits f.width) f a.units.now _ _ refl (rw c.body.ensures at c.in_ok-term_list.ensures)

pub def_if_else-pkg-p-requires : goal.def_if_else-pkg-p-requires
def_if_else-pkg-p-requires t c =
    let a = c.args in
    (c.requires.0, runs.head-package a.left a.at a.part.bytes.now (runs.if-head a.left a.at a.part.bytes.now c.requires.1))

pub def_if_else-eval-requires : goal.def_if_else-eval-requires
def_if_else-eval-requires t c =
    let a = c.args in
    evals.term-ready depth_limit _ a.part.bytes.now
    (runs.head-term-acc a.left a.at a.part.bytes.now (runs.if-head a.left a.at a.part.bytes.now c.requires.1) c.pkg-p.ensures)

pub def_if_else-returns-in_err-predicate : goal.def_if_else-returns-in_err-predicate
def_if_else-returns-in_err-predicate t c =
    let a = c.args in
    rw (evals.is-err _ _ c.from_residual.ensures)
    (runs.if-err a.left a.at a.part.bytes.now c.requires.1 c.pkg-p.ensures a.self.now _ a.units.now _ _ c.in_err-predicate.ensures)

pub def_if_else-def_else-requires : goal.def_if_else-def_else-requires
def_if_else-def_else-requires t c =
    let a = c.args in
    (omega (arith, c.decreases), (c.pkg-p.ensures.fits, runs.if-else-acc a.left a.at a.part.bytes.now c.requires.1 c.pkg-p.ensures))

pub def_if_else-returns-then-predicate-eq0 : goal.def_if_else-returns-then-predicate-eq0
def_if_else-returns-then-predicate-eq0 t c =
    let a = c.args in
    runs.if-zero a.left a.at a.part.bytes.now c.requires.1 c.pkg-p.ensures a.self.now _ a.units.now _ _ c.in_ok-predicate.ensures c.if-predicate-eq0.true _ c.def_else.ensures

pub def_if_else-else_end-requires : goal.def_if_else-else_end-requires
def_if_else-else_end-requires t c =
    let a = c.args in
    (c.pkg-p.ensures.fits, runs.else-held a.left _ a.part.bytes.now (runs.if-else-acc a.left a.at a.part.bytes.now c.requires.1 c.pkg-p.ensures))

pub def_if_else-body-requires : goal.def_if_else-body-requires
def_if_else-body-requires t c =
    let a = c.args in
    ((runs.if-body a.left a.at a.part.bytes.now c.requires.1 c.pkg-p.ensures a.self.now _ a.units.now _ _ c.in_ok-predicate.ensures).0, c.pkg-p.ensures.fits)

pub def_if_else-term_list-requires : goal.def_if_else-term_list-requires
def_if_else-term_list-requires t c =
    let a = c.args in
    let b = runs.if-body a.left a.at a.part.bytes.now c.requires.1 c.pkg-p.ensures a.self.now _ a.units.now _ _ c.in_ok-predicate.ensures in
    (omega (arith, c.decreases), rw c.body.ensures b.1)

pub def_if_else-returns-in_err-term_list : goal.def_if_else-returns-in_err-term_list
def_if_else-returns-in_err-term_list t c =
    let a = c.args in
    rw (evals.is-err _ _ c.from_residual-in_err-term_list.ensures)
    (runs.if-out a.left a.at a.part.bytes.now c.requires.1 c.pkg-p.ensures a.self.now _ a.units.now _ _ c.in_ok-predicate.ensures c.if-predicate-eq0.false _ _ c.in_err-term_list.field-0.0
    (rw c.body.ensures at c.in_err-term_list.ensures))

pub def_if_else-returns : goal.def_if_else-returns
def_if_else-returns t c =
    let a = c.args in
    runs.if-done a.left a.at a.part.bytes.now c.requires.1 c.pkg-p.ensures a.self.now _ a.units.now _ _ c.in_ok-predicate.ensures c.if-predicate-eq0.false _ _ c.else_end.result
    (c.else_end.ensures a.left (runs.if-else-acc a.left a.at a.part.bytes.now c.requires.1 c.pkg-p.ensures)) (rw c.body.ensures at c.in_ok-term_list.ensures)

pub def_while-pkg-p-requires : goal.def_while-pkg-p-requires
def_while-pkg-p-requires t c =
    let a = c.args in
    (c.requires.0, runs.head-package a.left a.at a.part.bytes.now c.requires.1)

pub statement_opcode-returns-in-165 : goal.statement_opcode-returns-in-165
statement_opcode-returns-in-165 t c = runs.plain-arm c.requires c.args.self.now c.in_ok-spend.ensures (runs.is-break c.in-165.is)

pub statement_opcode-returns-in-159 : goal.statement_opcode-returns-in-159
statement_opcode-returns-in-159 t c = runs.plain-arm c.requires c.args.self.now c.in_ok-spend.ensures (runs.is-continue c.in-159.is)

pub statement_opcode-returns-in-204 : goal.statement_opcode-returns-in-204
statement_opcode-returns-in-204 t c = runs.plain-arm c.requires c.args.self.now c.in_ok-spend.ensures (runs.is-breakpoint c.in-204.is)

pub statement_opcode-returns-in-163 : goal.statement_opcode-returns-in-163
statement_opcode-returns-in-163 t c = runs.plain-arm c.requires c.args.self.now c.in_ok-spend.ensures (runs.is-noop c.in-163.is)

pub statement_opcode-eval-requires : goal.statement_opcode-eval-requires
statement_opcode-eval-requires t c = runs.return-room c.requires (runs.is-return c.in-164.is)

pub statement_opcode-returns-in_err-v-in-164 : goal.statement_opcode-returns-in_err-v-in-164
statement_opcode-returns-in_err-v-in-164 t c =
    rw (evals.is-err _ _ c.from_residual-in_err-v-in-164.ensures) (runs.return-err c.requires (runs.is-return c.in-164.is) c.args.self.now _ c.in_ok-spend.ensures _ _ c.in_err-v-in-164.ensures)

pub statement_opcode-returns-in_ok-v-in-164 : goal.statement_opcode-returns-in_ok-v-in-164
statement_opcode-returns-in_ok-v-in-164 t c = runs.return-arm c.requires (runs.is-return c.in-164.is) c.args.self.now _ c.in_ok-spend.ensures _ _ c.in_ok-v-in-164.ensures

pub statement_opcode-def_if_else-requires : goal.statement_opcode-def_if_else-requires
statement_opcode-def_if_else-requires t c = (omega (arith, c.decreases), runs.if-room c.requires (runs.is-if c.in-160.is))

pub statement_opcode-returns-in-160 : goal.statement_opcode-returns-in-160
statement_opcode-returns-in-160 t c =
    let f = c.args.self.now in
    runs.if-arm c.requires (runs.is-if c.in-160.is) (bits f.width) f c.in_ok-spend.ensures _ c.def_if_else.ensures

pub statement_opcode-def_while-requires : goal.statement_opcode-def_while-requires
statement_opcode-def_while-requires t c = (omega (arith, c.decreases), runs.while-room c.requires (runs.is-while c.in-162.is))

pub statement_opcode-returns-in-162 : goal.statement_opcode-returns-in-162
statement_opcode-returns-in-162 t c =
    let f = c.args.self.now in
    runs.while-arm c.requires (runs.is-while c.in-162.is) (bits f.width) f c.in_ok-spend.ensures _ c.def_while.ensures

pub statement_opcode-term_arg-requires : goal.statement_opcode-term_arg-requires
statement_opcode-term_arg-requires t c = runs.expr-room c.requires (runs.is-expr c.requires (omega arith) (omega arith) (omega arith) (omega arith) (omega arith) (omega arith) (omega arith))

pub statement_opcode-returns-in_err-v-in_default : goal.statement_opcode-returns-in_err-v-in_default
statement_opcode-returns-in_err-v-in_default t c =
    let q = runs.is-expr c.requires (omega arith) (omega arith) (omega arith) (omega arith) (omega arith) (omega arith) (omega arith) in
    rw (evals.is-err _ _ c.from_residual-in_err-v-in_default.ensures) (runs.expr-err c.requires q c.args.self.now _ c.in_ok-spend.ensures _ _ c.in_err-v-in_default.ensures)

pub statement_opcode-returns-in_ok-v-in_default : goal.statement_opcode-returns-in_ok-v-in_default
statement_opcode-returns-in_ok-v-in_default t c =
    let q = runs.is-expr c.requires (omega arith) (omega arith) (omega arith) (omega arith) (omega arith) (omega arith) (omega arith) in
    runs.expr-arm c.requires q c.args.self.now _ c.in_ok-spend.ensures _ _ c.in_ok-v-in_default.ensures

pub term_list-statement_opcode-requires : goal.term_list-statement_opcode-requires
term_list-statement_opcode-requires t c =
    let a = c.args in
    let l = c.loop-at in
    let acc = runs.list-stmt-acc a.left l.at a.part.bytes.now l.self l.units c.loop-at-test.true l.invariant.1 in
    (omega (arith, c.decreases), runs.stmt-ready a.left l.at a.part.bytes.now c.loop-at-test.true acc)

pub term_list-loop-at-smaller : goal.term_list-loop-at-smaller
term_list-loop-at-smaller t c =
    let l = c.loop-at in
    omega (arith, runs.run_more c.args.left l.at c.args.part.bytes.now l.self l.units c.loop-at-test.true l.invariant.1 _ _ _ c.in_ok-at.ensures)

pub term_list-loop-at-preserved : goal.term_list-loop-at-preserved
term_list-loop-at-preserved t c =
    let l = c.loop-at in
    let m = runs.run_more c.args.left l.at c.args.part.bytes.now l.self l.units c.loop-at-test.true l.invariant.1 _ _ _ c.in_ok-at.ensures in
    (m.1, m.2, l.invariant.2 ∙ m.3)

pub term_list-returns-in_err-at : goal.term_list-returns-in_err-at
term_list-returns-in_err-at t c =
    let l = c.loop-at in
    rw (evals.is-err _ _ c.from_residual.ensures)
    (runs.run-stop c.args.left l.at c.args.part.bytes.now l.self l.units c.loop-at-test.true l.invariant.1 _ _ c.in_err-at.field-0.0 c.in_err-at.ensures ∙ sym l.invariant.2)

pub term_list-returns : goal.term_list-returns
term_list-returns t c =
    let l = c.loop-at in
    runs.run_end (bits l.self.width) c.args.left l.at c.args.part.bytes.now l.self l.units c.loop-at-test.false ∙ sym l.invariant.2

pub turn-eval-requires : goal.turn-eval-requires
turn-eval-requires t c =
    let a = c.args in
    evals.term-ready depth_limit a.at a.part.bytes.now (runs.turn-term-acc a.left a.end a.at a.part.bytes.now c.requires.1)

pub turn-returns-in_err-test : goal.turn-returns-in_err-test
turn-returns-in_err-test t c =
    let a = c.args in
    rw (evals.is-err _ _ c.from_residual-in_err-test.ensures)
    (runs.turn-err a.left a.end a.at a.part.bytes.now c.requires.1 a.self.now _ a.units.now _ c.in_ok-spend.ensures _ _ c.in_err-test.ensures)

pub turn-returns-then-test-eq0 : goal.turn-returns-then-test-eq0
turn-returns-then-test-eq0 t c =
    let a = c.args in
    runs.turn-false a.left a.end a.at a.part.bytes.now c.requires.1 a.self.now _ a.units.now _ c.in_ok-spend.ensures _ _ c.in_ok-test.ensures c.if-test-eq0.true

pub turn-returns-in-Ok : goal.turn-returns-in-Ok
turn-returns-in-Ok t c =
    let a = c.args in
    runs.turn-true a.left a.end a.at a.part.bytes.now c.requires.1 a.self.now _ a.units.now _ c.in_ok-spend.ensures _ _ c.in_ok-test.ensures c.if-test-eq0.false _ (rw c.body.ensures at c.in-Ok.ensures)

pub turn-returns-in-Continue : goal.turn-returns-in-Continue
turn-returns-in-Continue t c =
    let a = c.args in
    runs.turn-true a.left a.end a.at a.part.bytes.now c.requires.1 a.self.now _ a.units.now _ c.in_ok-spend.ensures _ _ c.in_ok-test.ensures c.if-test-eq0.false _
    (rw (c.body.ensures, c.in-Continue.is) at c.in-Err.ensures)

pub turn-returns-in-Break : goal.turn-returns-in-Break
turn-returns-in-Break t c =
    let a = c.args in
    runs.turn-true a.left a.end a.at a.part.bytes.now c.requires.1 a.self.now _ a.units.now _ c.in_ok-spend.ensures _ _ c.in_ok-test.ensures c.if-test-eq0.false _
    (rw (c.body.ensures, c.in-Break.is) at c.in-Err.ensures)

pub turn-returns-in_default : goal.turn-returns-in_default
turn-returns-in_default t c =
    let a = c.args in
    runs.body-out c.in-Err.out _ _ c.in_default.not-Continue c.in_default.not-Break
    ∙ runs.turn-true a.left a.end a.at a.part.bytes.now c.requires.1 a.self.now _ a.units.now _ c.in_ok-spend.ensures _ _ c.in_ok-test.ensures c.if-test-eq0.false _
    (rw c.body.ensures at c.in-Err.ensures)

pub def_while-turn-requires : goal.def_while-turn-requires
def_while-turn-requires t c =
    let a = c.args in
    (omega (arith, c.decreases), (c.pkg-p.ensures.fits, runs.turns-ok a.left a.at a.part.bytes.now c.requires.1 c.pkg-p.ensures))

pub def_while-loop-smaller : goal.def_while-loop-smaller
def_while-loop-smaller t c =
    let a = c.args in
    let ok = runs.turns-ok a.left a.at a.part.bytes.now c.requires.1 c.pkg-p.ensures in
    (runs.turns-again a.left _ _ a.part.bytes.now ok c.loop.self _ c.loop.units _ _ (rw c.if-branch.true at c.in_ok-turn.ensures) refl).0

pub def_while-loop-preserved : goal.def_while-loop-preserved
def_while-loop-preserved t c =
    let a = c.args in
    let ok = runs.turns-ok a.left a.at a.part.bytes.now c.requires.1 c.pkg-p.ensures in
    let more = runs.turns-again a.left _ _ a.part.bytes.now ok c.loop.self _ c.loop.units _ _ (rw c.if-branch.true at c.in_ok-turn.ensures) refl in
    cc (c.loop.invariant, more.1)

pub def_while-returns-in_err-turn : goal.def_while-returns-in_err-turn
def_while-returns-in_err-turn t c =
    let a = c.args in
    let f = a.self.now in
    let ok = runs.turns-ok a.left a.at a.part.bytes.now c.requires.1 c.pkg-p.ensures in
    rw (evals.is-err _ _ c.from_residual.ensures)
    (runs.while-ran a.left a.at a.part.bytes.now c.requires.1 c.pkg-p.ensures (bits f.width) f a.units.now _ _
    (runs.turns-out a.left _ _ a.part.bytes.now ok c.loop.self _ c.loop.units _ _ c.in_err-turn.ensures c.in_err-turn.field-0.0 refl ∙ sym c.loop.invariant)
    (runs.out-way _ c.in_err-turn.field-0.0 _ _))

pub def_while-returns : goal.def_while-returns
def_while-returns t c =
    let a = c.args in
    let f = a.self.now in
    let ok = runs.turns-ok a.left a.at a.part.bytes.now c.requires.1 c.pkg-p.ensures in
    runs.while-ran a.left a.at a.part.bytes.now c.requires.1 c.pkg-p.ensures (bits f.width) f a.units.now _ _
    (runs.turns-over a.left _ _ a.part.bytes.now ok c.loop.self _ c.loop.units _ _ (rw c.if-branch.false at c.in_ok-turn.ensures) refl ∙ sym c.loop.invariant) refl
