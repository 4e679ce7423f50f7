-- The first byte tells which of the four a NamePath is; each is one case of the definition.
use mathlib.Core.Path.{◌∙◌}
use Rattle.pkg_length.proofs.Answers.{residual}
use Rattle.name_object.proofs.Answers.{path-none, path-null, path-dual, path-multi, path-short, path-one}
use native.Mathlib.Omega.{arith}
use Rattle.name_object.proofs.name_path.Goals as goal

pub returns-in_err-byte_at : goal.returns-in_err-byte_at
returns-in_err-byte_at c = residual _ _ c.from_residual.ensures ∙ path-none _ _ _ _ c.in_err-byte_at.ensures

pub returns-in-0 : goal.returns-in-0
returns-in-0 c = path-null _ _ _ c.in_ok-byte_at.ensures c.in-0.is

pub returns-in-46 : goal.returns-in-46
returns-in-46 c = path-dual _ _ _ c.in_ok-byte_at.ensures c.in-46.is

pub returns-in_err-count-in-47 : goal.returns-in_err-count-in-47
returns-in_err-count-in-47 c =
    residual _ _ c.from_residual-in_err-count-in-47.ensures ∙ path-short _ _ _ c.in_ok-byte_at.ensures c.in-47.is _ _ c.in_err-count-in-47.ensures

pub returns-in_ok-count-in-47 : goal.returns-in_ok-count-in-47
returns-in_ok-count-in-47 c = rw c.from.ensures (path-multi _ _ _ c.in_ok-byte_at.ensures c.in-47.is _ c.in_ok-count-in-47.ensures)

pub returns-in_default : goal.returns-in_default
returns-in_default c = path-one _ _ _ c.in_ok-byte_at.ensures (λ e. omega arith) (λ e. omega arith) (λ e. omega arith)
