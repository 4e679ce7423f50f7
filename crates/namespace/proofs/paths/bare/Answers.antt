-- One component, a segment: its four bytes.
use mathlib.Core.Path.{sym, ap, ◌∙◌}
use mathlib.Core.List.{List, [], ◌∷◌}
use Prim.Native.Nat.{ℕ}
use lib.ListN.{get_or}
use Rattle.name_object.specs.Component.{component_limit, seg}
use Rattle.namespace.proofs.Bare.{bare-segment}
use Rattle.namespace.proofs.paths.bare.Goals as goal

pub returns-then-not-is_one_segment : goal.returns-then-not-is_one_segment
returns-then-not-is_one_segment c = sym c.is_one_segment.ensures ∙ c.if-not-is_one_segment.true

pub returns : goal.returns
returns c =
    bare-segment component_limit c.args.path.now.name.now c.args.path.now.ok (sym c.is_one_segment.ensures ∙ c.if-not-is_one_segment.false)
    ∙ ap (λ (bs : List ℕ). seg (get_or bs 0 0) (get_or bs 1 0) (get_or bs 2 0) (get_or bs 3 0) ∷ []) (sym c.component.ensures)
