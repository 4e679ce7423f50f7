-- The path holds the first components of the whole name: the prefix byte by byte, then the segments four bytes at a time.
use mathlib.Core.Path.{◌≡◌, ◌∙◌}
use Prim.Native.Nat.{◌+◌}
use lib.ListN.{get_or, take}
use lib.Seq.{length-take-le, get_or-take}
use Rattle.name_object.specs.Component.{component_limit}
use Rattle.name_object.proofs.Building.{build-count, build-prefix, build-seg, build-done}
use native.Mathlib.Omega.{arith}
use Rattle.name_object.proofs.build.Goals as goal

pub push-name-requires : goal.push-name-requires
push-name-requires c =
    let a = c.args in
    let l = c.loop-byte in
    let all = length-take-le a.pre a.input.now (omega arith) in
    omega (arith, all, build-count component_limit a.input.now a.pre a.run.from a.run.count l.name (omega arith) (omega arith) l.byte-index (omega (arith, all)) l.invariant)

pub loop-byte-preserved : goal.loop-byte-preserved
loop-byte-preserved c =
    let a = c.args in
    let l = c.loop-byte in
    let all = length-take-le a.pre a.input.now (omega arith) in
    let byte : get_or (take a.pre a.input.now) l.byte-index 0 ≡ get_or a.input.now l.byte-index 0 = get_or-take _ a.input.now l.byte-index 0 (omega (arith, all)) in
    rw byte at c.push-name.ensures ∙ build-prefix component_limit a.input.now a.pre a.run.from a.run.count l.name (omega arith) (omega arith) l.byte-index (omega (arith, all)) l.invariant

pub push-name-requires-in-loop-j : goal.push-name-requires-in-loop-j
push-name-requires-in-loop-j c =
    let a = c.args in
    let l = c.loop-j in
    omega (arith, build-count component_limit a.input.now a.pre a.run.from a.run.count l.name (omega arith) (omega arith) (a.pre + l.j) (omega arith) l.invariant)

pub loop-j-preserved : goal.loop-j-preserved
loop-j-preserved c =
    let a = c.args in
    let l = c.loop-j in
    c.push-name-in-loop-j.ensures ∙ build-seg component_limit a.input.now a.pre a.run.from a.run.count l.name (omega arith) (omega arith) l.j (omega arith) l.invariant

pub returns : goal.returns
returns c =
    let a = c.args in
    let l = c.loop-j in
    build-done component_limit a.input.now a.pre a.run.from a.run.count l.name (omega arith) (omega arith) l.j (omega arith) l.invariant
