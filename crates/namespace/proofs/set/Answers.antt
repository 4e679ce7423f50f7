-- 24, then the object.
use mathlib.Core.Path.{ap, ◌∙◌}
use Rattle.pkg_length.proofs.Answers.{residual}
use Rattle.table.specs.Limits.{limits}
use Rattle.table.specs.Memory.{left, done}
use Rattle.table.specs.Edits.{set_value}
use Rattle.namespace.specs.Calls.{edit_left, set_call}
use Rattle.namespace.proofs.Calls.{unformed, formed-at, mean-given, left-kept}
use Rattle.namespace.proofs.set.Goals as goal

pub returns-in_err-of : goal.returns-in_err-of
unfolding set_call
returns-in_err-of c =
    let ws = c.args.table.now in
    ap (edit_left ws) (residual c.from_residual.result c.in_err-of.field-0.0 c.from_residual.ensures)
    ∙ left-kept limits ws _ _ _ (unformed limits ws (λ t. done (set_value t c.args.handle.0 c.args.value)) c.in_err-of.field-0.0 c.in_err-of.ensures)

pub returns : goal.returns
unfolding set_call
returns c =
    let ws = c.args.table.now in
    c.write.ensures ∙ ap (left limits ws) (mean-given limits ws (λ t. done (set_value t c.args.handle.0 c.args.value)) (formed-at limits c.in_ok-of.field-0.words.now c.args.table.now c.in_ok-of.ensures c.in_ok-of.field-0.formed))
