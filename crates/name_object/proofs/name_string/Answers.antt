-- Where the segments start, then the segments, and what they make: each may end the reading.
use mathlib.Core.Path.{◌∙◌, ap}
use Rattle.name_object.specs.Component.{component_limit}
use Rattle.name_object.specs.Memory.{told}
use Rattle.name_object.specs.Name.{name_read}
use Rattle.pkg_length.proofs.Answers.{residual_as}
use Rattle.name_object.proofs.Answers.{run-starts, segments-room, answer-none, answer-refused, answer-read}
use Rattle.name_object.proofs.name_string.Goals as goal

pub returns-in_err-run : goal.returns-in_err-run
returns-in_err-run c =
    residual_as name_read _ _ c.from_residual.ensures
    ∙ ap (told component_limit) (answer-none component_limit _ _ c.prefixes-pre.ensures.0 _ _ c.in_err-run.ensures)

pub name_segs-requires : goal.name_segs-requires
name_segs-requires c = (run-starts _ _ _ c.in_ok-run.ensures).1

pub returns-in_err-name_segs : goal.returns-in_err-name_segs
returns-in_err-name_segs c =
    residual_as name_read _ _ c.from_residual-in_err-name_segs.ensures
    ∙ ap (told component_limit) (answer-refused component_limit _ _ c.prefixes-pre.ensures.0 _ c.in_ok-run.ensures _ _ c.in_err-name_segs.ensures)

pub named-requires : goal.named-requires
named-requires c =
    (c.prefixes-pre.ensures.0, c.prefixes-pre.ensures.1, segments-room _ _ _ _ (run-starts _ _ _ c.in_ok-run.ensures).1 c.in_ok-name_segs.ensures)

pub returns : goal.returns
returns c = c.named.ensures ∙ ap (told component_limit) (answer-read component_limit _ _ c.prefixes-pre.ensures.0 _ c.in_ok-run.ensures _ c.in_ok-name_segs.ensures)
