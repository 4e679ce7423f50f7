-- Whether a word passed had a bit set, and those from there on are zero.
use mathlib.Core.Path.{sym, ◌∙◌}
use Rattle.table.proofs.Turns.{spare-turn, spare-end}
use native.Mathlib.Omega.{arith}
use Rattle.table.proofs.inner.all_spare.Goals as goal

pub loop-word-preserved : goal.loop-word-preserved
loop-word-preserved c =
    let l = c.loop-word in
    spare-turn c.args.words.now l.word-index l.seen (omega arith) ∙ l.invariant

pub returns : goal.returns
returns c =
    let l = c.loop-word in
    sym (spare-end c.args.words.now l.word-index l.seen (omega arith)) ∙ l.invariant
