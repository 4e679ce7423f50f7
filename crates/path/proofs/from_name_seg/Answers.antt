-- Four bytes that pass the test of a segment are pushed on the empty path.
use mathlib.Core.Path.{refl, sym, ◌∙◌, ap}
use lib.ListN.{get_or}
use Rattle.pkg_length.specs.Refusal.{gives}
use Rattle.name_object.specs.Component.{seg, component_limit}
use Rattle.path.proofs.Basics.{answers-as}
use Rattle.path.proofs.Flags.{push-first, count_none, seg-good, seg-bad}
use native.Mathlib.Omega.{arith}
use Rattle.path.proofs.from_name_seg.Goals as goal

pub returns-then-not-is_segment : goal.returns-then-not-is_segment
returns-then-not-is_segment c = answers-as component_limit (seg-bad c.args.seg.0 (sym c.is_segment.ensures ∙ c.if-not-is_segment.true)) refl

pub push-requires : goal.push-requires
push-requires c = omega (arith, count_none component_limit c.empty.result c.empty.ensures)

pub returns : goal.returns
returns c =
    let bs = c.args.seg.0 in
    answers-as component_limit (seg-good bs (sym c.is_segment.ensures ∙ c.if-not-is_segment.false))
    (ap gives (push-first component_limit _ c.empty.result (seg (get_or bs 0 0) (get_or bs 1 0) (get_or bs 2 0) (get_or bs 3 0)) _ _ _ _ (omega arith) refl c.push.ensures c.empty.ensures))
