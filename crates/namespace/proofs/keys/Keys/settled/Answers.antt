-- 26, 11 and 10, and then the keys.
use mathlib.Core.Path.{ap, ◌∙◌}
use Rattle.pkg_length.specs.Refusal.{gives}
use Rattle.pkg_length.proofs.Answers.{residual}
use Rattle.namespace.specs.Calls.{settled_keys}
use Rattle.namespace.proofs.keys.Keys.settled.Goals as goal

pub returns-in_err-of : goal.returns-in_err-of
unfolding settled_keys
returns-in_err-of c = residual c.from_residual.result c.in_err-of.field-0.0 c.from_residual.ensures ∙ rw (← c.in_err-of.ensures)

pub returns-in_err-path : goal.returns-in_err-path
unfolding settled_keys
returns-in_err-path c =
    residual c.from_residual-in_err-path.result c.in_err-path.field-0.0 c.from_residual-in_err-path.ensures ∙ rw (← c.in_ok-of.ensures, ← c.in_err-path.ensures)

pub returns : goal.returns
unfolding settled_keys
returns c = ap gives c.of-2.ensures ∙ rw (← c.in_ok-of.ensures, ← c.in_ok-path.ensures)
