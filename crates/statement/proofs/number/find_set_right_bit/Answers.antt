-- No low bit is set, or the zero count finds it (`right-found`).
use Rattle.statement.specs.Frames.{bits}
use Rattle.statement.proofs.Numbers.{bits_most}
use Rattle.statement.proofs.Finders.{right-none, right-found}
use Rattle.statement.proofs.number.find_set_right_bit.Goals as goal

pub returns-then-m-eq0 : goal.returns-then-m-eq0
returns-then-m-eq0 c =
    let a = c.args in
    right-none a.n (bits a.w) c.wrapped-m.result c.wrapped-m.ensures c.if-m-eq0.true

pub returns : goal.returns
returns c =
    let a = c.args in
    rw c.from.ensures (right-found a.n (bits a.w) c.wrapped-m.result c.wrapped-m.ensures 64 (bits_most a.w) c.if-m-eq0.false)
