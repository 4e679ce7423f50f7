-- 24, then 26 for each of the three, then what the two come to against the scope, and then the edit.
use mathlib.Core.Path.{ap, ap₂, ◌∙◌}
use Rattle.pkg_length.proofs.Answers.{residual_as}
use Rattle.table.specs.Limits.{limits}
use Rattle.table.specs.Memory.{decode, left}
use Rattle.table.specs.Edits.{add_alias_answer}
use Rattle.table.proofs.Objects.{means-formed}
use Rattle.namespace.specs.Calls.{edit_left, alias_at, add_alias_call}
use Rattle.namespace.proofs.Calls.{unformed, formed-at, left-kept}
use Rattle.namespace.proofs.add_alias_at_resolved_path.Goals as goal

pub returns-in_err-of : goal.returns-in_err-of
returns-in_err-of c =
    let ws = c.args.table.now in
    ap (edit_left ws) (residual_as (λ h. h.0) c.from_residual.result c.in_err-of.field-0.0 c.from_residual.ensures)
    ∙ left-kept limits ws _ _ (add_alias_call limits ws c.args.path c.args.scope c.args.target) (unfold add_alias_call in unformed limits ws _ c.in_err-of.field-0.0 c.in_err-of.ensures)

pub returns-in_err-path : goal.returns-in_err-path
unfolding add_alias_call alias_at
returns-in_err-path c =
    let ws = c.args.table.now in
    ap (edit_left ws) (residual_as (λ h. h.0) c.from_residual-in_err-path.result c.in_err-path.field-0.0 c.from_residual-in_err-path.ensures)
    ∙ left-kept limits ws _ _ _ (rw (means-formed limits c.args.table.now (formed-at limits c.in_ok-of.field-0.words.now c.args.table.now c.in_ok-of.ensures c.in_ok-of.field-0.formed), ← c.in_err-path.ensures))

pub returns-in_err-scope : goal.returns-in_err-scope
unfolding add_alias_call alias_at
returns-in_err-scope c =
    let ws = c.args.table.now in
    ap (edit_left ws) (residual_as (λ h. h.0) c.from_residual-in_err-scope.result c.in_err-scope.field-0.0 c.from_residual-in_err-scope.ensures)
    ∙ left-kept limits ws _ _ _ (rw (means-formed limits c.args.table.now (formed-at limits c.in_ok-of.field-0.words.now c.args.table.now c.in_ok-of.ensures c.in_ok-of.field-0.formed), ← c.in_ok-path.ensures, ← c.in_err-scope.ensures))

pub returns-in_err-target : goal.returns-in_err-target
unfolding add_alias_call alias_at
returns-in_err-target c =
    let ws = c.args.table.now in
    ap (edit_left ws) (residual_as (λ h. h.0) c.from_residual-in_err-target.result c.in_err-target.field-0.0 c.from_residual-in_err-target.ensures)
    ∙ left-kept limits ws _ _ _ (rw (means-formed limits c.args.table.now (formed-at limits c.in_ok-of.field-0.words.now c.args.table.now c.in_ok-of.ensures c.in_ok-of.field-0.formed), ← c.in_ok-path.ensures, ← c.in_ok-scope.ensures, ← c.in_err-target.ensures))

pub returns-in_err-against : goal.returns-in_err-against
unfolding add_alias_call alias_at
returns-in_err-against c =
    let ws = c.args.table.now in
    ap (edit_left ws) (residual_as (λ h. h.0) c.from_residual-in_err-against.result c.in_err-against.field-0.0 c.from_residual-in_err-against.ensures)
    ∙ left-kept limits ws _ _ _ (rw (means-formed limits c.args.table.now (formed-at limits c.in_ok-of.field-0.words.now c.args.table.now c.in_ok-of.ensures c.in_ok-of.field-0.formed), ← c.in_ok-path.ensures, ← c.in_ok-scope.ensures, ← c.in_ok-target.ensures, ← c.in_err-against.ensures))

pub returns-in_err-against-2 : goal.returns-in_err-against-2
unfolding add_alias_call alias_at
returns-in_err-against-2 c =
    let ws = c.args.table.now in
    ap (edit_left ws) (residual_as (λ h. h.0) c.from_residual-in_err-against-2.result c.in_err-against-2.field-0.0 c.from_residual-in_err-against-2.ensures)
    ∙ left-kept limits ws _ _ _ (rw (means-formed limits c.args.table.now (formed-at limits c.in_ok-of.field-0.words.now c.args.table.now c.in_ok-of.ensures c.in_ok-of.field-0.formed), ← c.in_ok-path.ensures, ← c.in_ok-scope.ensures, ← c.in_ok-target.ensures, ← c.in_ok-against.ensures, ← c.in_err-against-2.ensures))

pub returns : goal.returns
unfolding add_alias_call alias_at
returns c =
    let ws = c.args.table.now in
    c.add_alias.ensures ∙ ap (left limits ws) (ap₂ (add_alias_answer limits (decode limits ws)) c.of-names.ensures c.of-aims.ensures ∙ rw (means-formed limits c.args.table.now (formed-at limits c.in_ok-of.field-0.words.now c.args.table.now c.in_ok-of.ensures c.in_ok-of.field-0.formed), ← c.in_ok-path.ensures, ← c.in_ok-scope.ensures, ← c.in_ok-target.ensures, ← c.in_ok-against.ensures, ← c.in_ok-against-2.ensures))
