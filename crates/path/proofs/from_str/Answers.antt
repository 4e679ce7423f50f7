-- Empty text; a root alone; or parts, behind a root where there is one.
use mathlib.Core.Path.{refl, sym, ◌∙◌}
use Prim.Native.Nat.{◌<◌}
use lib.ListN.{length, get_or}
use borrow.Author.Tests.{eqb-true, eqb-false}
use Rattle.name_object.specs.Component.{component_limit}
use Rattle.pkg_length.proofs.Answers.{residual}
use Rattle.path.specs.Inside.{root_of}
use Rattle.path.proofs.Basics.{answers-as}
use Rattle.path.proofs.Shown.{made-none, made-path, made-over}
use Rattle.path.proofs.Readings.{text-none, parts-by, text-by, TextMade, root-made, parts-made}
use native.Mathlib.Omega.{arith}
use Rattle.path.proofs.from_str.Goals as goal
use Rattle.path.proofs.from_str.Goals.{then-made-text+in_ok-made, else-made-text}

pub returns-then-is_empty : goal.returns-then-is_empty
returns-then-is_empty c =
    answers-as component_limit (text-none component_limit c.args.text.now (eqb-true _ _ (sym c.is_empty.ensures ∙ c.if-is_empty.true))) refl

pub returns-in_err-made : goal.returns-in_err-made
returns-in_err-made c =
    let text = c.args.text.now in
    let root = c.read_root.ensures in
    let none = eqb-false _ _ (sym c.is_empty.ensures ∙ c.if-is_empty.false) in
    let some : 0 < length text = omega (arith, none) in
    let k = c.in_err-made.ensures (root_of (get_or text 0 0)) (root.1 (made-none component_limit _ c.empty-made.ensures)) root.0 in
    answers-as component_limit (text-by component_limit text (parts-by text _ some root.0 (λ h. omega arith) ∙ k)) (residual _ _ c.from_residual.ensures)

pub returns-in_err-fits : goal.returns-in_err-fits
returns-in_err-fits c =
    let text = c.args.text.now in
    let root = c.read_root.ensures in
    let none = eqb-false _ _ (sym c.is_empty.ensures ∙ c.if-is_empty.false) in
    let some : 0 < length text = omega (arith, none) in
    let start = root.1 (made-none component_limit _ c.empty-made.ensures) in
    let t : TextMade component_limit text c.if-made-text.made =
    elim c.if-made-text.branch [
      | then-made-text+in_ok-made w ↦ parts-made component_limit text _ _ some root.0 _ _ w.made-is w.if-made-text.true (w.in_ok-made.ensures (root_of (get_or text 0 0)) start root.0)
      | else-made-text w ↦ root-made component_limit text _ _ some root.0 _ w.made-is start w.if-made-text.false
    ] in
    answers-as component_limit (text-by component_limit text t.is) (residual _ _ c.from_residual-in_err-fits.ensures ∙ made-over component_limit t.cs _ _ t.count c.in_err-fits.ensures)

pub returns : goal.returns
returns c =
    let text = c.args.text.now in
    let root = c.read_root.ensures in
    let none = eqb-false _ _ (sym c.is_empty.ensures ∙ c.if-is_empty.false) in
    let some : 0 < length text = omega (arith, none) in
    let start = root.1 (made-none component_limit _ c.empty-made.ensures) in
    let t : TextMade component_limit text c.if-made-text.made =
    elim c.if-made-text.branch [
      | then-made-text+in_ok-made w ↦ parts-made component_limit text _ _ some root.0 _ _ w.made-is w.if-made-text.true (w.in_ok-made.ensures (root_of (get_or text 0 0)) start root.0)
      | else-made-text w ↦ root-made component_limit text _ _ some root.0 _ w.made-is start w.if-made-text.false
    ] in
    answers-as component_limit (text-by component_limit text t.is) (made-path component_limit t.cs _ _ t.memory t.count c.in_ok-fits.ensures)
