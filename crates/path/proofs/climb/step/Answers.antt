-- A law for each way that a step goes.
use mathlib.Core.Path.{refl, sym, ◌∙◌, ap}
use Rattle.std.specs.Prelude.{Ok}
use Rattle.pkg_length.specs.Refusal.{gives}
use Rattle.name_object.specs.Component.{component_limit}
use Rattle.path.specs.Normal.{step}
use Rattle.path.proofs.Climbs.{is_up, not-up, climb-push, climb-pop, climb-stop, climbed-as}
use native.Mathlib.Omega.{arith}
use Prim.Native.Nat.{◌+◌, ◌-◌}
use Rattle.path.proofs.climb.step.Goals as goal

pub returns-then-four-ne-PREFIX_CHAR : goal.returns-then-four-ne-PREFIX_CHAR
returns-then-four-ne-PREFIX_CHAR c =
    let a = c.args in
    record {
      low = omega arith;
      is = λ done x s f e. climbed-as component_limit (Ok (a.high + 1)) c.put.ensures refl (climb-push component_limit a.out.now a.high done s x a.four f e (not-up x a.four e c.if-four-ne-PREFIX_CHAR.true));
    }

pub returns-then-not-has_segment : goal.returns-then-not-has_segment
returns-then-not-has_segment c =
    let a = c.args in
    record {
      low = tt;
      is = λ done x s f e.
          ap (step (gives done)) (is_up x a.four _ e f (omega arith))
          ∙ climb-stop component_limit a.out.now a.high done s (sym (c.has_segment.ensures.is done s) ∙ c.if-not-has_segment.true);
    }

pub overflow_sub-result : goal.overflow_sub-result
overflow_sub-result c = omega (arith, c.has_segment.ensures.some c.if-not-has_segment.false)

pub returns : goal.returns
returns c =
    let a = c.args in
    record {
      low = omega arith;
      is = λ done x s f e.
          climbed-as component_limit (Ok (a.high - 1)) c.put-2.ensures (ap (step (gives done)) (is_up x a.four _ e f (omega arith)))
          (climb-pop component_limit a.out.now a.high done s (sym (c.has_segment.ensures.is done s) ∙ c.if-not-has_segment.false));
    }
