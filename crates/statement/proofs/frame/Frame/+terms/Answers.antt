-- Each return is one law of Evals; what a call requires is a part of what was read.
use Rattle.std.proofs.Common.{ℕ, ◌+◌, ◌-◌, ◌≡◌, drop, take, sym, ap, ◌∙◌, arith}
use Rattle.pkg_length.specs.Little.{little}
use Rattle.statement.specs.Frames.{bits}
use Rattle.grammar.proofs.Tables.{op-cell}
use Rattle.statement.proofs.Evals as evals
use Rattle.statement.proofs.frame.Frame.+terms.Goals as goal

pub eval-returns-in_err-number : goal.eval-returns-in_err-number
eval-returns-in_err-number t c =
    let f = c.args.self.now in
    rw (evals.is-err _ _ c.from_residual.ensures) (evals.cell-at-once c.requires (bits f.width) f (sym c.is_cell.ensures ∙ c.if-is_cell.true) _ c.from.ensures _ c.in_err-number.ensures)

pub eval-returns-in_ok-number : goal.eval-returns-in_ok-number
eval-returns-in_ok-number t c =
    let f = c.args.self.now in
    evals.cell-at-once c.requires (bits f.width) f (sym c.is_cell.ensures ∙ c.if-is_cell.true) _ c.from.ensures _ c.in_ok-number.ensures

pub one-eval-requires : goal.one-eval-requires
one-eval-requires t c =
    let a = c.args in
    (omega (arith, c.decreases), evals.term-ready a.left a.at a.part.bytes.now (evals.one-term-acc a.left a.at a.part.bytes.now a.d c.requires))

pub one-returns-in_err-a : goal.one-returns-in_err-a
one-returns-in_err-a t c =
    let a = c.args in
    rw (evals.is-err _ _ c.from_residual.ensures) (evals.one-err a.left a.at a.part.bytes.now a.d a.self.now _ _ _ c.in_err-a.ensures c.requires a.op)

pub one-store-next-requires : goal.one-store-next-requires
one-store-next-requires t c =
    let a = c.args in
    let k = evals.one-dest-acc a.left a.at a.part.bytes.now a.d a.self.now _ _ _ c.in_ok-a.ensures c.requires in
    k

pub one-returns : goal.one-returns
one-returns t c =
    let a = c.args in
    evals.one-stored a.left a.at a.part.bytes.now a.d a.self.now _ _ _ c.in_ok-a.ensures c.requires _ _ c.store-next.ensures a.op c.unary-number.ensures

pub two-eval-requires : goal.two-eval-requires
two-eval-requires t c =
    let a = c.args in
    (omega (arith, c.decreases), evals.term-ready a.left a.at a.part.bytes.now (evals.two-term-acc a.left a.at a.part.bytes.now a.d c.requires))

pub two-returns-in_err-a : goal.two-returns-in_err-a
two-returns-in_err-a t c =
    let a = c.args in
    rw (evals.is-err _ _ c.from_residual.ensures) (evals.two-err a.left a.at a.part.bytes.now a.d a.self.now _ _ _ c.in_err-a.ensures c.requires a.op)

pub two-eval-requires-2 : goal.two-eval-requires-2
two-eval-requires-2 t c =
    let a = c.args in
    let k = evals.two-second-acc a.left a.at a.part.bytes.now a.d a.self.now _ _ _ c.in_ok-a.ensures c.requires in
    (omega (arith, c.decreases), evals.term-ready a.left _ a.part.bytes.now (evals.one-term-acc a.left _ a.part.bytes.now a.d k))

pub two-returns-in_err-b : goal.two-returns-in_err-b
two-returns-in_err-b t c =
    let a = c.args in
    let k = evals.two-second-acc a.left a.at a.part.bytes.now a.d a.self.now _ _ _ c.in_ok-a.ensures c.requires in
    rw (evals.is-err _ _ c.from_residual-in_err-b.ensures)
    (evals.two-second a.left a.at a.part.bytes.now a.d a.self.now _ _ _ c.in_ok-a.ensures c.requires a.op _ (evals.second-err a.left _ a.part.bytes.now a.d _ _ _ _ c.in_err-b.ensures k a.op _))

pub two-store-next-requires : goal.two-store-next-requires
two-store-next-requires t c =
    let a = c.args in
    let k = evals.two-second-acc a.left a.at a.part.bytes.now a.d a.self.now _ _ _ c.in_ok-a.ensures c.requires in
    let m = evals.one-dest-acc a.left _ a.part.bytes.now a.d _ _ _ _ c.in_ok-b.ensures k in
    m

pub two-returns : goal.two-returns
two-returns t c =
    let a = c.args in
    let k = evals.two-second-acc a.left a.at a.part.bytes.now a.d a.self.now _ _ _ c.in_ok-a.ensures c.requires in
    evals.two-second a.left a.at a.part.bytes.now a.d a.self.now _ _ _ c.in_ok-a.ensures c.requires a.op _
    (evals.second-stored a.left _ a.part.bytes.now a.d _ _ _ _ c.in_ok-b.ensures k _ _ c.store-next.ensures a.op _ c.binary-number.ensures)

pub term_arg-overflow_add-next-in-Bytes : goal.term_arg-overflow_add-next-in-Bytes
term_arg-overflow_add-next-in-Bytes t c = omega (arith, evals.bytes-room c.requires c.term_op-op.ensures c.in-Bytes.is)

pub term_arg-slice_bounds-little_endian-end : goal.term_arg-slice_bounds-little_endian-end
term_arg-slice_bounds-little_endian-end t c = omega (arith, evals.bytes-room c.requires c.term_op-op.ensures c.in-Bytes.is)

pub term_arg-little_endian-spelt-requires : goal.term_arg-little_endian-spelt-requires
term_arg-little_endian-spelt-requires t c = omega (arith, evals.bytes-room c.requires c.term_op-op.ensures c.in-Bytes.is)

pub term_arg-returns-in-Constant : goal.term_arg-returns-in-Constant
term_arg-returns-in-Constant t c =
    let f = c.args.self.now in
    evals.constant-arm c.requires c.term_op-op.ensures (bits f.width) f c.in-Constant.is _ c.wrapped.ensures

pub term_arg-returns-in-Bytes : goal.term_arg-returns-in-Bytes
term_arg-returns-in-Bytes t c =
    let f = c.args.self.now in
    let at = c.args.at in
    let n = c.in-Bytes.n in
    let q : at + 1 + n - (at + 1) ≡ n = omega arith in
    evals.bytes-arm c.requires c.term_op-op.ensures (bits f.width) f c.in-Bytes.is _ _
    (c.little_endian-spelt.ensures ∙ ap (λ (k : ℕ). little (take k (drop (at + 1) c.args.part.bytes.now))) q) c.wrapped-in-Bytes.ensures

pub term_arg-load-requires : goal.term_arg-load-requires
term_arg-load-requires t c = (op-cell _ _ (sym c.term_op-op.ensures ∙ c.in-Cell.is)).2

pub term_arg-returns-in_err-number-in-Cell : goal.term_arg-returns-in_err-number-in-Cell
term_arg-returns-in_err-number-in-Cell t c =
    let f = c.args.self.now in
    rw (evals.is-err _ _ c.from_residual.ensures) (evals.cell-arm c.requires c.term_op-op.ensures (bits f.width) f c.in-Cell.is _ c.in_err-number-in-Cell.ensures)

pub term_arg-returns-in_ok-number-in-Cell : goal.term_arg-returns-in_ok-number-in-Cell
term_arg-returns-in_ok-number-in-Cell t c =
    let f = c.args.self.now in
    evals.cell-arm c.requires c.term_op-op.ensures (bits f.width) f c.in-Cell.is _ c.in_ok-number-in-Cell.ensures

pub term_arg-bounds-part-at-in-Step : goal.term_arg-bounds-part-at-in-Step
term_arg-bounds-part-at-in-Step t c = omega (arith, evals.step-room c.requires c.term_op-op.ensures c.in-Step.is)

pub term_arg-overflow_sub-part : goal.term_arg-overflow_sub-part
term_arg-overflow_sub-part t c = omega (arith, evals.step-room c.requires c.term_op-op.ensures c.in-Step.is)

pub term_arg-step-requires : goal.term_arg-step-requires
term_arg-step-requires t c = omega (arith, evals.step-room c.requires c.term_op-op.ensures c.in-Step.is, c.from.ensures)

pub term_arg-returns-in_err-number-in-Step : goal.term_arg-returns-in_err-number-in-Step
term_arg-returns-in_err-number-in-Step t c =
    let f = c.args.self.now in
    rw (evals.is-err _ _ c.from_residual-in_err-number-in-Step.ensures)
    (evals.step-arm c.requires c.term_op-op.ensures (bits f.width) f c.in-Step.is _ _ c.from.ensures c.in_err-number-in-Step.ensures)

pub term_arg-returns-in_ok-number-in-Step : goal.term_arg-returns-in_ok-number-in-Step
term_arg-returns-in_ok-number-in-Step t c =
    let f = c.args.self.now in
    evals.step-arm c.requires c.term_op-op.ensures (bits f.width) f c.in-Step.is _ _ c.from.ensures c.in_ok-number-in-Step.ensures

pub term_arg-one-requires : goal.term_arg-one-requires
term_arg-one-requires t c = (omega (arith, c.decreases), evals.one-room c.requires c.term_op-op.ensures c.in-One.is)

pub term_arg-two-requires : goal.term_arg-two-requires
term_arg-two-requires t c = (omega (arith, c.decreases), evals.two-room c.requires c.term_op-op.ensures c.in-Two.is)

pub term_arg-returns-in-One : goal.term_arg-returns-in-One
term_arg-returns-in-One t c =
    let f = c.args.self.now in
    evals.one-arm c.requires c.term_op-op.ensures c.in-One.is (bits f.width) f _ c.one.ensures

pub term_arg-returns-in-Two : goal.term_arg-returns-in-Two
term_arg-returns-in-Two t c =
    let f = c.args.self.now in
    evals.two-arm c.requires c.term_op-op.ensures c.in-Two.is (bits f.width) f _ c.two.ensures

pub term_arg-unreachable-requires : goal.term_arg-unreachable-requires
term_arg-unreachable-requires t c = evals.arm-acc c.requires c.term_op-op.ensures c.in-BadTerm.is
