-- After i components the walk stands where `Along` says; a step that finds no segment ends it.
use mathlib.Core.Path.{sym, ◌∙◌}
use Prim.Native.Nat.{◌<◌}
use lib.ListN.{length, get_or}
use Rattle.name_object.specs.Component.{up, component_limit}
use Rattle.name_object.specs.Memory.{path_of_name}
use Rattle.name_object.proofs.Paths.{path-fine, spelt-at}
use Rattle.pkg_length.proofs.Answers.{residual_of}
use Rattle.path.specs.Inside.{Walked}
use Rattle.path.proofs.Climbs.{along-none, along-fine, along-next, along-stop, along-all}
use Rattle.path.proofs.Walks.{length-path}
use native.Mathlib.Omega.{arith}
use Rattle.path.proofs.climb.walk.Goals as goal

pub loop-i-init : goal.loop-i-init
loop-i-init c = (omega arith, λ done s g. along-none _ _ _ done _ s g)

pub component-requires : goal.component-requires
component-requires c = omega (arith, (path-fine component_limit c.args.path.now.name.now c.args.path.now.ok).1)

pub step-requires : goal.step-requires
step-requires c = omega (arith, (path-fine component_limit c.args.path.now.name.now c.args.path.now.ok).1)

pub loop-i-preserved : goal.loop-i-preserved
loop-i-preserved c =
    let name = c.args.path.now.name.now in
    let l = c.loop-i in
    let t = c.in_ok-high.ensures in (
      omega (arith, t.low),
      λ done s g.
          let h : l.i < length (path_of_name name) = omega (arith, length-path name) in
          let w = l.invariant.1 done s g in
          along-next component_limit done (path_of_name name) l.i h l.out l.high w c.step.new.out c.in_ok-high.high
          (t.is w.now (get_or (path_of_name name) l.i up) w.shows (along-fine component_limit done (path_of_name name) l.i h l.out l.high w)
          (spelt-at component_limit name l.i c.args.path.now.ok (omega arith) ∙ sym c.component.ensures)),
    )

pub returns-in_err-high : goal.returns-in_err-high
returns-in_err-high c =
    let name = c.args.path.now.name.now in
    let l = c.loop-i in
    let t = c.in_err-high.ensures in
    residual_of (λ r. Walked component_limit c.args.out.now c.args.start name c.step.new.out r) _ _ c.from_residual.ensures
    (record {
      low = tt;
      is = λ done s g.
          let h : l.i < length (path_of_name name) = omega (arith, length-path name) in
          let w = l.invariant.1 done s g in
          along-stop component_limit done (path_of_name name) l.i h l.out l.high w _
          (t.is w.now (get_or (path_of_name name) l.i up) w.shows (along-fine component_limit done (path_of_name name) l.i h l.out l.high w)
          (spelt-at component_limit name l.i c.args.path.now.ok (omega arith) ∙ sym c.component.ensures));
    })

pub returns : goal.returns
returns c =
    let name = c.args.path.now.name.now in
    let l = c.loop-i in
    record {
      low = omega arith;
      is = λ done s g. along-all component_limit l.out l.high done (path_of_name name) l.i (omega (arith, length-path name)) (l.invariant.1 done s g);
    }
