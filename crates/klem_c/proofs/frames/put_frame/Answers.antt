-- The flags are written first, then the numbers, then the width: the words are the three in a row.
use mathlib.Core.Path.{◌≡◌}
use lib.ListN.{length}
use borrow.Author.Rules.{rules}
use Rattle.klem_c.proofs.Copies.{put-frame}
use Rattle.klem_c.proofs.frames.put_frame.Goals as goal

pub returns : goal.returns
returns c =
    let f = c.args.frame.now in
    let l : length f.set ≡ 15 = search rules in
    let m : length f.val ≡ 15 = search rules in
    let h : length c.args.words.now ≡ 31 = search rules in
    put-frame c.args.words.now c.put_flags.new.words c.copy_from_slice.new.self f c.into.result l m h c.into.ensures c.put_flags.ensures c.copy_from_slice.ensures.after
