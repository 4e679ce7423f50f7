-- 24, what the path is refused with, and then the work on the tree.
use mathlib.Core.Path.{ap, ◌∙◌}
use Rattle.name_object.specs.Component.{component_limit}
use Rattle.pkg_length.proofs.Answers.{residual_as}
use Rattle.table.specs.Limits.{limits}
use Rattle.table.specs.Memory.{left}
use Rattle.table.specs.Edits.{add_value_answer}
use Rattle.namespace.specs.Calls.{edit_left, resolved_keys, add_value_resolved_call}
use Rattle.namespace.proofs.Calls.{unformed, formed-at, call-given, call-refused, left-kept}
use Rattle.namespace.proofs.add_value_at_resolved_path.Goals as goal

pub returns-in_err-of : goal.returns-in_err-of
returns-in_err-of c =
    let ws = c.args.table.now in
    ap (edit_left ws) (residual_as (λ h. h.0) c.from_residual.result c.in_err-of.field-0.0 c.from_residual.ensures)
    ∙ left-kept limits ws _ _ (add_value_resolved_call limits ws c.args.path c.args.scope c.args.value) (unfold add_value_resolved_call in unformed limits ws _ c.in_err-of.field-0.0 c.in_err-of.ensures)

pub returns-in_err-keys : goal.returns-in_err-keys
unfolding add_value_resolved_call
returns-in_err-keys c =
    let ws = c.args.table.now in
    ap (edit_left ws) (residual_as (λ h. h.0) c.from_residual-in_err-keys.result c.in_err-keys.field-0.0 c.from_residual-in_err-keys.ensures)
    ∙ left-kept limits ws _ _ _ (call-refused limits ws (formed-at limits c.in_ok-of.field-0.words.now c.args.table.now c.in_ok-of.ensures c.in_ok-of.field-0.formed) (resolved_keys component_limit c.args.path c.args.scope) (λ t p. add_value_answer limits t p c.args.value) _ _ c.in_err-keys.ensures)

pub returns : goal.returns
unfolding add_value_resolved_call
returns c =
    let ws = c.args.table.now in
    c.add_value.ensures ∙ ap (left limits ws) (call-given limits ws (formed-at limits c.in_ok-of.field-0.words.now c.args.table.now c.in_ok-of.ensures c.in_ok-of.field-0.formed) (resolved_keys component_limit c.args.path c.args.scope) (λ t p. add_value_answer limits t p c.args.value) c.in_ok-keys.keys c.in_ok-keys.ensures)
