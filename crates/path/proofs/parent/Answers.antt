-- The normal form, and then its last component away.
use mathlib.Core.Path.{refl, sym, ◌∙◌, ap}
use mathlib.Core.List.{List}
use Rattle.pkg_length.specs.Refusal.{Answer, gives, and_then}
use Rattle.name_object.specs.Component.{Component, component_limit}
use Rattle.name_object.specs.Memory.{path_in_answer}
use Rattle.name_object.specs.declared.AmlName.{AmlName}
use Rattle.pkg_length.proofs.Answers.{residual}
use Rattle.path.specs.Normal.{normal}
use Rattle.path.proofs.Basics.{answers-as}
use Rattle.path.proofs.Answers.{named-given, named-refused, parent-by}
use Rattle.path.proofs.Given.{parent-top, parent-given, parent-popped, parent-count}
use Rattle.path.proofs.parent.Goals as goal

abbrev normal_in : AmlName → Answer (List Component)
normal_in name = and_then (path_in_answer component_limit name) (normal component_limit)

pub returns-in_err-normal : goal.returns-in_err-normal
returns-in_err-normal c =
    let e = named-refused component_limit (normal_in c.args.name) _ _ c.in_err-normal.ensures in
    answers-as component_limit (parent-by component_limit c.args.name (sym e)) (residual _ _ c.from_residual.ensures)

pub returns-then-is_top : goal.returns-then-is_top
returns-then-is_top c =
    let name = c.args.name in
    let m = c.in_ok-normal.normal in
    let d = named-given component_limit (normal_in name) m c.in_ok-normal.ensures in
    answers-as component_limit (parent-top component_limit name m d.0 d.1 d.2 (sym c.is_top.ensures ∙ c.if-is_top.true)) refl

pub pop-requires : goal.pop-requires
pop-requires c =
    let name = c.args.name in
    let m = c.in_ok-normal.normal in
    let d = named-given component_limit (normal_in name) m c.in_ok-normal.ensures in
    parent-count component_limit name m d.0 d.1 d.2 (sym c.is_top.ensures ∙ c.if-is_top.false)

pub returns : goal.returns
returns c =
    let name = c.args.name in
    let m = c.in_ok-normal.normal in
    let d = named-given component_limit (normal_in name) m c.in_ok-normal.ensures in
    let t = sym c.is_top.ensures ∙ c.if-is_top.false in
    answers-as component_limit (parent-given component_limit name m d.0 d.1 d.2 t) (ap gives (c.pop.ensures ∙ parent-popped component_limit name m d.0 d.1 d.2 t))
