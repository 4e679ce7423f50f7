use lib.ListN.{drop}
use Rattle.name_object.specs.Memory.{path_of_name}
use Rattle.path.specs.Text.{text_of}
use Rattle.path.proofs.Writings.{Written}
use Rattle.path.proofs.inner.Path.write_text.Given as goal

abbrev pub invariant-loop-i : goal.invariant-loop-i
invariant-loop-i l = Written l.out l.initial.out l.at (text_of (drop l.i (path_of_name l.self.name.now))) (text_of (path_of_name l.self.name.now))
