-- Each return is one case of the definition: no signature, a body that is too long, no room, or the table.
use mathlib.Core.Path.{ap, ◌∙◌}
use native.Mathlib.Omega.{arith}
use Rattle.pkg_length.proofs.Answers.{residual}
use Rattle.pkg_length.specs.Wrote.{wrote}
use Rattle.header.proofs.Written.{write-long, write-over, write-fit, written-unsigned, written-signed}
use Rattle.header.proofs.write.Goals as goal

pub returns-in_err-signature : goal.returns-in_err-signature
returns-in_err-signature c =
    rw (residual _ _ c.from_residual.ensures)
    (ap (wrote c.args.out.now) (written-unsigned _ _ _ _ _ c.in_err-signature.ensures))

pub returns-then-body-gt-BODY_LIMIT : goal.returns-then-body-gt-BODY_LIMIT
returns-then-body-gt-BODY_LIMIT c =
    write-long _ _ (omega arith) ∙ ap (wrote c.args.out.now) (written-signed _ _ _ _ _ c.in_ok-signature.ensures)

pub returns-then-out-body : goal.returns-then-out-body
returns-then-out-body c =
    write-over _ _ (omega arith) (omega arith)
    ∙ ap (wrote c.args.out.now) (written-signed _ _ _ _ _ c.in_ok-signature.ensures)

pub returns : goal.returns
returns c =
    c.fill.ensures ∙ write-fit _ _ (omega arith) (omega arith)
    ∙ ap (wrote c.args.out.now) (written-signed _ _ _ _ _ c.in_ok-signature.ensures)
