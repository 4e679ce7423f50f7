-- What the functions that list the levels promise one another. No public contract but those of `listing` rests on these.
use Rattle.std.specs.Prelude.{◌≡◌, List, map, ℕ, ◌+◌, ◌≤◌, length, take, drop, Result, MatchResult}
use Rattle.pkg_length.specs.Refusal.{Answer, gives, refused}
use Rattle.pkg_length.specs.declared.AmlError.{AmlError}
use Rattle.table.specs.Levels.{word_level}
use Rattle.namespace.specs.Levels.{record_of_word}
use Rattle.namespace.specs.declared.LevelRecord.{LevelRecord}
use Rattle.namespace.specs.declared.listing.Listing.{Listing}

-- what a level's word says
abbrev pub word_record : ℕ → LevelRecord
word_record w = record_of_word (word_level w)

-- the records of a run of words
abbrev pub run_records : List ℕ → ℕ → ℕ → List LevelRecord
run_records ws at n = map word_record (take n (drop at ws))

-- the records of a call that answers a stand together in the words
pub record Stands (ws : List ℕ) (room : ℕ) (a : Answer (List LevelRecord)) (l : Listing) : Type 0 where
  pub answer : a ≡ gives (run_records ws l.at l.count)
  pub fits : l.count ≤ room
  pub inside : l.at + l.count ≤ length ws

-- they stand there, or a is the refusal
abbrev pub Listable : List ℕ → ℕ → Answer (List LevelRecord) → Result Listing AmlError → Type 0
Listable ws room a r = MatchResult r (Stands ws room a) (λ e. a ≡ refused e)
