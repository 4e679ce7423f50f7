-- 24, what the path is refused with, and then the work on the tree.
use mathlib.Core.Path.{ap, ◌∙◌}
use Rattle.name_object.specs.Component.{component_limit}
use Rattle.pkg_length.proofs.Answers.{residual}
use Rattle.table.specs.Limits.{limits}
use Rattle.table.specs.Memory.{left, done}
use Rattle.table.specs.Edits.{remove_level_answer}
use Rattle.namespace.specs.Calls.{edit_left, settled_keys, remove_level_call}
use Rattle.namespace.proofs.Calls.{unformed, formed-at, call-given, call-refused, left-kept}
use Rattle.namespace.proofs.remove_level.Goals as goal

pub returns-in_err-of : goal.returns-in_err-of
returns-in_err-of c =
    let ws = c.args.table.now in
    ap (edit_left ws) (residual c.from_residual.result c.in_err-of.field-0.0 c.from_residual.ensures)
    ∙ left-kept limits ws _ _ (remove_level_call limits ws c.args.path) (unfold remove_level_call in unformed limits ws _ c.in_err-of.field-0.0 c.in_err-of.ensures)

pub returns-in_err-keys : goal.returns-in_err-keys
unfolding remove_level_call
returns-in_err-keys c =
    let ws = c.args.table.now in
    ap (edit_left ws) (residual c.from_residual-in_err-keys.result c.in_err-keys.field-0.0 c.from_residual-in_err-keys.ensures)
    ∙ left-kept limits ws _ _ _ (call-refused limits ws (formed-at limits c.in_ok-of.field-0.words.now c.args.table.now c.in_ok-of.ensures c.in_ok-of.field-0.formed) (settled_keys component_limit c.args.path) (λ t p. done (remove_level_answer t p)) _ _ c.in_err-keys.ensures)

pub returns : goal.returns
unfolding remove_level_call
returns c =
    let ws = c.args.table.now in
    c.remove_level.ensures ∙ ap (left limits ws) (call-given limits ws (formed-at limits c.in_ok-of.field-0.words.now c.args.table.now c.in_ok-of.ensures c.in_ok-of.field-0.formed) (settled_keys component_limit c.args.path) (λ t p. done (remove_level_answer t p)) c.in_ok-keys.keys c.in_ok-keys.ensures)
