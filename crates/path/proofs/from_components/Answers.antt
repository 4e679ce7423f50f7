-- Memory that passes the test is the memory of its components.
use mathlib.Core.Path.{◌≡◌, sym, ap}
use Prim.Native.Nat.{◌*◌}
use lib.ListN.{length}
use Rattle.pkg_length.specs.Refusal.{gives}
use Rattle.name_object.specs.Component.{component_limit}
use Rattle.name_object.proofs.Paths.{name_back}
use Rattle.path.proofs.Basics.{answers-as}
use borrow.Author.Rules.{rules}
use Rattle.path.proofs.from_components.Goals as goal

pub returns : goal.returns
returns c =
    let len : length c.args.bytes ≡ 4 * component_limit = search rules in
    answers-as component_limit c.in_ok-of.ensures (ap gives (sym (name_back component_limit (record { count = c.args.count; bytes = c.args.bytes }) _ len (sym c.in_ok-of.ensures))))
