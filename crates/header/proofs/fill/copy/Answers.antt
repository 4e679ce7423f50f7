-- What is behind the loop is the source's, and what is before it is as it was; at the end nothing is before it.
use mathlib.Core.Path.{refl, ◌∙◌}
use native.Mathlib.Omega.{arith}
use lib.ListN.{length-set}
use Rattle.header.proofs.Copied.{copied, copied_all}
use Rattle.header.proofs.fill.copy.Goals as goal

pub loop-i-init : goal.loop-i-init
loop-i-init c = (refl, refl)

pub loop-i-preserved : goal.loop-i-preserved
loop-i-preserved c =
    let l = c.loop-i in let a = c.args in
    (simp length-set l.invariant.0, rw l.invariant.1 (copied a.to.now a.bytes.now l.i 0 (omega arith) (omega arith)))

pub returns : goal.returns
returns c = c.loop-i.invariant.1 ∙ copied_all c.args.to.now c.args.bytes.now c.loop-i.i (omega arith) (omega arith)
