-- 24, then the object.
use mathlib.Core.Path.{ap, ◌∙◌}
use mathlib.Core.List.{List}
use Prim.Native.Nat.{ℕ}
use Rattle.pkg_length.proofs.Answers.{residual}
use Rattle.table.specs.Limits.{limits}
use Rattle.table.specs.Memory.{decode}
use Rattle.table.specs.Edits.{value_of}
use Rattle.namespace.specs.Calls.{get_call}
use Rattle.namespace.proofs.Calls.{unformed, formed-at, mean-given}
use Rattle.namespace.proofs.get.Goals as goal

pub returns-in_err-of : goal.returns-in_err-of
unfolding get_call
returns-in_err-of c =
    residual c.from_residual.result c.in_err-of.field-0.0 c.from_residual.ensures
    ∙ unformed limits c.args.table.now (λ t. value_of t c.args.handle.0) c.in_err-of.field-0.0 c.in_err-of.ensures

pub returns : goal.returns
unfolding get_call
returns c =
    c.read.ensures ∙ ap (λ (ws : List ℕ). value_of (decode limits ws) c.args.handle.0) c.in_ok-of.ensures
    ∙ mean-given limits c.args.table.now (λ t. value_of t c.args.handle.0) (formed-at limits c.in_ok-of.field-0.words.now c.args.table.now c.in_ok-of.ensures c.in_ok-of.field-0.formed)
