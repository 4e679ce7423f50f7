-- What is behind the loop is the flags as numbers.
use mathlib.Core.Path.{◌≡◌}
use mathlib.Core.Bool.{false}
use native.Mathlib.Omega.{arith}
use lib.ListN.{length, get_or}
use borrow.Author.Rules.{rules}
use Rattle.klem_c.specs.Result.{flag}
use Rattle.klem_c.proofs.Copies.{filled-more}
use Rattle.klem_c.proofs.frames.put_flags.Goals as goal

pub loop-cell-preserved : goal.loop-cell-preserved
loop-cell-preserved c =
    let l : length c.args.words.now ≡ 31 = search rules in
    let k : length c.args.set.now ≡ 15 = search rules in
    let e : c.from.result ≡ flag (get_or c.args.set.now c.loop-cell.cell false) = search rules in
    rw c.loop-cell.invariant (filled-more flag c.args.set.now c.args.words.now c.loop-cell.cell false _ (omega arith) (omega arith) e)
