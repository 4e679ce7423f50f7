use mathlib.Core.Path.{◌≡◌}
use mathlib.Core.List.{◌++◌, map}
use Prim.Native.Nat.{suc, ◌+◌, ◌-◌, ◌*◌, ◌≤◌}
use lib.ListN.{length, take, drop}
use Rattle.image.specs.Bits.{bits_in}
use Rattle.image.specs.Format.{first_edition}
use Rattle.image.specs.Reader.{bound_at}
use Rattle.table.specs.Layout.{bind_word}
use Rattle.image.specs.Inside.{Walk, all_bound}
use Rattle.image.proofs.load.bindings.Given as goal

abbrev pub invariant-loop-k : goal.invariant-loop-k
invariant-loop-k l =
    record {
      all : take l.m l.words ++ map bind_word (bound_at first_edition (bits_in l.bytes) (suc l.n - l.k) l.at) ≡ take 128 l.initial.words ++ map bind_word (bound_at first_edition (bits_in l.bytes) (suc l.n) (32 + l.n * 41));
      kept : drop l.m l.words ≡ drop l.m l.initial.words;
      long : length l.words ≡ length l.initial.words;
      few : l.m ≤ 128 + length (all_bound (bits_in l.bytes) l.n);
      walk : Walk first_edition (bits_in l.bytes) (suc l.n - l.k) l.at (128 + length (all_bound (bits_in l.bytes) l.n) - l.m);
    }
