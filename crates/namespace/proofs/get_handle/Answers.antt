-- 24, what the path is refused with, and then the lookup.
use mathlib.Core.Path.{◌∙◌}
use Rattle.name_object.specs.Component.{component_limit}
use Rattle.pkg_length.proofs.Answers.{residual_as}
use Rattle.table.specs.Limits.{limits}
use Rattle.table.specs.Edits.{look_up_answer}
use Rattle.namespace.specs.Calls.{settled_keys, get_handle_call}
use Rattle.namespace.proofs.Calls.{unformed, formed-at, call-given, call-refused}
use Rattle.namespace.proofs.get_handle.Goals as goal

pub returns-in_err-table : goal.returns-in_err-table
returns-in_err-table c =
    residual_as (λ h. h.0) c.from_residual.result c.in_err-table.field-0.0 c.from_residual.ensures
    ∙ (unfold get_handle_call in unformed limits c.args.table.now _ c.in_err-table.field-0.0 c.in_err-table.ensures)

pub returns-in_err-settled : goal.returns-in_err-settled
unfolding get_handle_call
returns-in_err-settled c =
    residual_as (λ h. h.0) c.from_residual-in_err-settled.result c.in_err-settled.field-0.0 c.from_residual-in_err-settled.ensures
    ∙ call-refused limits c.args.table.now (formed-at limits c.in_ok-table.table.words.now c.args.table.now c.in_ok-table.ensures c.in_ok-table.table.formed) (settled_keys component_limit c.args.path) look_up_answer _ _ c.in_err-settled.ensures

pub returns : goal.returns
unfolding get_handle_call
returns c =
    rw c.in_ok-table.ensures at c.look_up.ensures
    ∙ call-given limits c.args.table.now (formed-at limits c.in_ok-table.table.words.now c.args.table.now c.in_ok-table.ensures c.in_ok-table.table.formed) (settled_keys component_limit c.args.path) look_up_answer c.in_ok-settled.field-0 c.in_ok-settled.ensures
