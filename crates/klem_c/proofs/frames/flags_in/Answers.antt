-- What is behind the loop is the flags of the words.
use mathlib.Core.Path.{◌≡◌, refl, ◌∙◌}
use native.Mathlib.Omega.{arith}
use lib.ListN.{length, take}
use lib.Seq.{length-take-le}
use borrow.Author.Rules.{rules}
use Rattle.grammar.specs.Grammar.{cells}
use Rattle.klem_c.specs.Frames.{is_set, flags_at}
use Rattle.klem_c.proofs.Copies.{filled-more, filled-whole}
use Rattle.klem_c.proofs.frames.flags_in.Goals as goal

pub loop-cell-preserved : goal.loop-cell-preserved
loop-cell-preserved c =
    let ws = c.args.words.now in
    let l : length ws ≡ 31 = search rules in
    let k : length (take cells ws) ≡ cells = length-take-le cells ws (omega arith) in
    rw c.loop-cell.invariant (filled-more is_set (take cells ws) _ c.loop-cell.cell 0 _ (omega arith) (omega arith) refl)

pub returns : goal.returns
unfolding flags_at
returns c =
    let ws = c.args.words.now in
    let l : length ws ≡ 31 = search rules in
    let k : length (take cells ws) ≡ cells = length-take-le cells ws (omega arith) in
    c.loop-cell.invariant ∙ filled-whole is_set (take cells ws) _ c.loop-cell.cell (omega arith) (omega arith)
