use mathlib.Core.Path.{◌≡◌}
use mathlib.Core.List.{map}
use Prim.Native.Nat.{◌+◌, ◌*◌}
use lib.ListN.{length, take, drop}
use Rattle.image.specs.Format.{first_edition}
use Rattle.image.specs.Bits.{spelled}
use Rattle.table.specs.Layout.{binding_of}
use Rattle.table.specs.Inside.{counts}
use Rattle.image.specs.Inside.{ink, counted_fields}
use Rattle.image.proofs.save.bound.Given as goal

abbrev pub invariant-loop-word : goal.invariant-loop-word
invariant-loop-word l =
    record {
      is : l.out ≡ ink l.initial.out l.fn.at (spelled (counted_fields first_edition (take l.word-index l.levels) (map binding_of l.bindings)));
      long : length l.out ≡ length l.initial.out;
      left : l.left ≡ drop (counts (take l.word-index l.levels)) l.bindings;
      place : l.at ≡ l.fn.at + (l.word-index * 10 + counts (take l.word-index l.levels) * 42);
    }
