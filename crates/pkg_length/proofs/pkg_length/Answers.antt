-- Each return is one case of the definition: the bare reader refused, the length does not fit, or both gave.
use mathlib.Core.Path.{◌∙◌}
use Rattle.pkg_length.proofs.Answers.{residual}
use Rattle.pkg_length.proofs.Pkgs.{pkg-refused, pkg-unfit, pkg-fit}
use Rattle.pkg_length.proofs.pkg_length.Goals as goal

pub returns-in_err-raw : goal.returns-in_err-raw
returns-in_err-raw c = residual _ _ c.from_residual.ensures ∙ pkg-refused _ _ _ c.in_err-raw.ensures

pub returns-in_err-length_read : goal.returns-in_err-length_read
returns-in_err-length_read c =
    residual _ _ c.from_residual-in_err-length_read.ensures ∙ pkg-unfit _ _ _ _ _ c.in_ok-raw.ensures c.in_err-length_read.ensures

pub returns : goal.returns
returns c = pkg-fit _ _ _ _ c.in_ok-raw.ensures c.in_ok-length_read.ensures
