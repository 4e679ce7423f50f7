-- Each return is what the reading of the whole block says: too long, or read to its end, or refused on the way.
use Rattle.std.proofs.Common.{◌∙◌}
use Rattle.pkg_length.proofs.Answers.{residual}
use Rattle.grammar.proofs.Theorems.{checked-from, too_long, whole-read}
use Rattle.grammar.proofs.check.Goals as goal

pub returns-then-block-gt65536 : goal.returns-then-block-gt65536
returns-then-block-gt65536 c = let s = c.args.block.now in checked-from s _ (too_long s c.if-block-gt65536.true)

pub returns-in_err-term_list : goal.returns-in_err-term_list
returns-in_err-term_list c =
    let s = c.args.block.now in
    checked-from s _ (residual _ _ c.from_residual.ensures ∙ whole-read s c.if-block-gt65536.false _ c.in_err-term_list.ensures)

pub returns : goal.returns
returns c = let s = c.args.block.now in checked-from s _ (whole-read s c.if-block-gt65536.false _ c.in_ok-term_list.ensures)
