use mathlib.Core.Path.{◌≡◌}
use Prim.Native.Nat.{◌+◌}
use lib.ListN.{length, drop}
use Rattle.name_object.specs.Memory.{path_of_name}
use Rattle.path.specs.Text.{text_of}
use Rattle.path.proofs.inner.Path.text_length.Given as goal

abbrev pub invariant-loop-i : goal.invariant-loop-i
invariant-loop-i l = l.n + length (text_of (drop l.i (path_of_name l.self.name.now))) ≡ length (text_of (path_of_name l.self.name.now))
