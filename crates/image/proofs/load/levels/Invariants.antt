use mathlib.Core.Path.{◌≡◌}
use mathlib.Core.List.{◌++◌}
use Prim.Native.Nat.{ℕ, ◌+◌, ◌-◌, ◌*◌}
use lib.ListN.{length, take, drop}
use Rattle.image.specs.Bits.{bits_in}
use Rattle.image.specs.Format.{first_edition}
use Rattle.image.specs.Reader.{level_words, all_words}
use Rattle.image.specs.Inside.{Walk}
use Rattle.image.proofs.load.levels.Given as goal

abbrev pub invariant-loop-k : goal.invariant-loop-k
invariant-loop-k l =
    record {
      all : take (l.k + 1) l.words ++ level_words first_edition (bits_in l.bytes) (l.n - l.k) (32 + l.k * 41) l.at ≡ all_words first_edition (bits_in l.bytes) l.n;
      kept : drop (l.k + 1) l.words ≡ drop (l.k + 1) l.initial.words;
      long : length l.words ≡ length l.initial.words;
      walk : (rest : ℕ) × Walk first_edition (bits_in l.bytes) (l.n - l.k) l.at rest;
    }
