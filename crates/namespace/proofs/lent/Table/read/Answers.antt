-- One law for each answer.
use Rattle.table.specs.Limits.{limits}
use Rattle.table.proofs.Objects.{long, long-enough, get-found, get_none}
use native.Mathlib.Omega.{arith}
use Rattle.namespace.proofs.lent.Table.read.Goals as goal

pub bounds-self-640 : goal.bounds-self-640
bounds-self-640 c = omega (arith, long limits (omega arith) c.args.self.now.words.now c.args.self.now.formed)

pub bounds-self-h : goal.bounds-self-h
bounds-self-h c =
    let ws = c.args.self.now.words.now in
    omega (arith, long limits (omega arith) ws c.args.self.now.formed, long-enough limits (omega arith) ws c.args.self.now.formed)

pub returns : goal.returns
returns c = get-found limits (omega arith) c.args.self.now.words.now c.args.self.now.formed c.args.handle.0 c.if-made-h.false

pub returns-then-made-h : goal.returns-then-made-h
returns-then-made-h c = get_none limits (omega arith) c.args.self.now.words.now c.args.self.now.formed c.args.handle.0 c.if-made-h.true
