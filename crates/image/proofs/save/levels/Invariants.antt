use Rattle.image.specs.Format.{first_edition}
use Rattle.image.specs.Bits.{spelled}
use Rattle.image.specs.Inside.{fields_of_word}
use Rattle.image.proofs.Written.{Put}
use Rattle.image.proofs.save.levels.Given as goal

abbrev pub invariant-loop-word : goal.invariant-loop-word
invariant-loop-word l = Put (λ w. spelled (fields_of_word first_edition w)) 41 l.initial.out l.fn.at l.words l.word-index l.out l.at
