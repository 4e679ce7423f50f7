use mathlib.Core.Path.{◌≡◌}
use lib.ListN.{drop}
use Rattle.name_object.specs.Memory.{path_of_name}
use Rattle.path.specs.Normal.{is_normal_path}
use Rattle.path.proofs.inner.Path.is_normal.Given as goal

abbrev pub invariant-loop-i : goal.invariant-loop-i
invariant-loop-i l = is_normal_path (drop l.i (path_of_name l.self.name.now)) ≡ is_normal_path (path_of_name l.self.name.now)
