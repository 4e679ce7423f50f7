-- The reader is on its way to the whole answer; each byte is a turn.
use Prim.Native.Nat.{suc}
use lib.ListN.{length, drop}
use mathlib.Core.Path.{◌≡◌}
use Rattle.name_object.specs.Component.{component_limit}
use Rattle.path.specs.Text.{reading, before}
use Rattle.path.specs.Inside.{after}
use Rattle.path.proofs.Readings.{way-start, way_next, way_on, end_before, end-inside}
use native.Mathlib.Omega.{arith}
use Rattle.path.proofs.text.read_parts.Goals as goal

pub loop-i-init : goal.loop-i-init
loop-i-init c = (omega arith, omega arith, omega arith, λ done e h. way-start _ _ _ _ done e h)

pub loop-i-preserved : goal.loop-i-preserved
loop-i-preserved c =
    let a = c.args in
    let l = c.loop-i in
    let t = c.in-Some.ensures in (
      omega arith,
      omega arith,
      omega (arith, t.low),
      λ done e h.
          let w = after done (reading before a.from (drop a.from a.text.now)) in
          way_on component_limit c.read_byte.new.out c.in-Some.t l.i a.text.now w
          (t.is l.i (drop (suc l.i) a.text.now) w (way_next component_limit l.out l.s l.i a.text.now w (omega arith) (l.invariant.3 done e h))),
    )

pub returns-in-None : goal.returns-in-None
returns-in-None c =
    let a = c.args in
    let l = c.loop-i in
    let t = c.in-None.ensures in
    λ done e h.
    let w = after done (reading before a.from (drop a.from a.text.now)) in
    t.is l.i (drop (suc l.i) a.text.now) w (way_next component_limit l.out l.s l.i a.text.now w (omega arith) (l.invariant.3 done e h))

pub returns-then-s-eq0 : goal.returns-then-s-eq0
returns-then-s-eq0 c =
    let a = c.args in
    let l = c.loop-i in
    let end : l.i ≡ length a.text.now = omega arith in
    λ done e h. rw end at (end_before component_limit l.out l.s l.i a.text.now _ (omega arith) (l.invariant.3 done e h) c.if-s-eq0.true)

pub returns : goal.returns
returns c =
    let a = c.args in
    let l = c.loop-i in
    λ done e h. end-inside component_limit l.out l.s l.i a.text.now _ (omega arith) (l.invariant.3 done e h) c.if-s-eq0.false
