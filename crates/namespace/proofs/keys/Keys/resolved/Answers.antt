-- 26 of the path, and of the scope, then what it comes to against it.
use mathlib.Core.Path.{ap, ◌∙◌}
use Rattle.pkg_length.specs.Refusal.{gives}
use Rattle.pkg_length.proofs.Answers.{residual}
use Rattle.namespace.specs.Calls.{resolved_keys}
use Rattle.namespace.proofs.keys.Keys.resolved.Goals as goal

pub returns-in_err-path : goal.returns-in_err-path
unfolding resolved_keys
returns-in_err-path c = residual c.from_residual.result c.in_err-path.field-0.0 c.from_residual.ensures ∙ rw (← c.in_err-path.ensures)

pub returns-in_err-scope : goal.returns-in_err-scope
unfolding resolved_keys
returns-in_err-scope c =
    residual c.from_residual-in_err-scope.result c.in_err-scope.field-0.0 c.from_residual-in_err-scope.ensures ∙ rw (← c.in_ok-path.ensures, ← c.in_err-scope.ensures)

pub returns-in_err-path-2 : goal.returns-in_err-path-2
unfolding resolved_keys
returns-in_err-path-2 c =
    residual c.from_residual-in_err-path-2.result c.in_err-path-2.field-0.0 c.from_residual-in_err-path-2.ensures
    ∙ rw (← c.in_ok-path.ensures, ← c.in_ok-scope.ensures, ← c.in_err-path-2.ensures)

pub returns : goal.returns
unfolding resolved_keys
returns c = ap gives c.of-3.ensures ∙ rw (← c.in_ok-path.ensures, ← c.in_ok-scope.ensures, ← c.in_ok-path-2.ensures)
