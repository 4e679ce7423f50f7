-- The levels so far stand behind what stood.
use borrow.Author.Rules.{rules}
use native.Mathlib.Omega.{arith}
use mathlib.Core.Path.{◌≡◌, ap, ◌∙◌}
use Prim.Native.Nat.{ℕ}
use lib.ListN.{length}
use Rattle.image.specs.Format.{first_edition}
use Rattle.image.specs.Bits.{spelled}
use Rattle.image.specs.Inside.{ink, fields_of_word}
use Rattle.image.proofs.Written.{put-none, put-more, put-all, length-word, words-row}
use Rattle.image.proofs.save.levels.Goals as goal

width : (w : ℕ) → length (spelled (fields_of_word first_edition w)) ≡ 41
width w = length-word first_edition w

pub loop-word-init : goal.loop-word-init
loop-word-init c = put-none (λ w. spelled (fields_of_word first_edition w)) 41 width _ _ _ c.requires.2.clean

pub overflow_add-at : goal.overflow_add-at
overflow_add-at c = record { fits = omega (arith, c.requires.2.low, c.loop-word.invariant.place) }

pub level-requires : goal.level-requires
level-requires c =
    let l = c.loop-word in
    (omega (arith, c.requires.2.room, l.invariant.place, l.invariant.long), omega (arith, c.requires.2.low, l.invariant.place), c.requires.0 l.word-index (search rules))

pub loop-word-preserved : goal.loop-word-preserved
loop-word-preserved c =
    let l = c.loop-word in
    put-more (λ w. spelled (fields_of_word first_edition w)) 41 width l.invariant (search rules) (omega (arith, c.requires.2.room, l.invariant.place)) c.level.ensures

pub returns : goal.returns
returns c =
    let a = c.args in
    put-all (λ w. spelled (fields_of_word first_edition w)) 41 width c.loop-word.invariant (search rules) ∙ ap (ink a.out.now a.at) (words-row first_edition a.words.now)
