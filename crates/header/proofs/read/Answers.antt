-- Each return is one case of the definition: too short, no signature, then the length and the sum.
use mathlib.Core.Path.{sym, ◌∙◌}
use native.Mathlib.Omega.{arith}
use Rattle.pkg_length.proofs.Answers.{residual}
use Rattle.header.proofs.Headers.{header-short, header-unsigned, header-signed, length-low, length_high, sum-wrong, header-good}
use Rattle.header.proofs.read.Goals as goal

pub returns-then-table-lt-LENGTH : goal.returns-then-table-lt-LENGTH
returns-then-table-lt-LENGTH c = header-short _ (omega arith)

pub returns-in_err-signature : goal.returns-in_err-signature
returns-in_err-signature c =
    residual _ _ c.from_residual.ensures ∙ header-unsigned _ (omega arith) c.in_err-signature.ensures

pub returns-then-end-lt-LENGTH : goal.returns-then-end-lt-LENGTH
returns-then-end-lt-LENGTH c =
    length-low _ _ _ c.little_endian-end.ensures (omega arith)
    ∙ header-signed _ (omega arith) c.in_ok-signature.ensures

pub returns-then-table-end : goal.returns-then-table-end
returns-then-table-end c =
    length_high _ _ _ c.little_endian-end.ensures (omega arith) (omega arith)
    ∙ header-signed _ (omega arith) c.in_ok-signature.ensures

pub returns-then-sum-ne0 : goal.returns-then-sum-ne0
returns-then-sum-ne0 c =
    sum-wrong _ _ _ c.little_endian-end.ensures (omega arith) (omega arith) (λ z. c.if-sum-ne0.true (c.sum.ensures ∙ z))
    ∙ header-signed _ (omega arith) c.in_ok-signature.ensures

pub returns : goal.returns
returns c =
    header-good _ _ _ c.little_endian-end.ensures (omega arith) (omega arith) (sym c.sum.ensures ∙ c.if-sum-ne0.false)
    ∙ header-signed _ (omega arith) c.in_ok-signature.ensures
