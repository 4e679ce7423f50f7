-- What stands is the path without as many components as were popped, and then the segment behind it.
use mathlib.Core.Path.{◌≡◌, ap, ◌∙◌}
use Prim.Native.Nat.{ℕ, ◌+◌, ◌-◌}
use lib.ListN.{take}
use Rattle.name_object.specs.Component.{component_limit}
use Rattle.name_object.specs.Memory.{name_of, path_of_name}
use Rattle.path.proofs.Walks.{length-path}
use Rattle.namespace.proofs.PathKeys.{settled-kept}
use Rattle.namespace.proofs.Bare.{cut-start, cut-turn, cut-count, put-segment}
use native.Mathlib.Omega.{arith}
use Rattle.namespace.proofs.paths.Absolute.around.Goals as goal

pub loop-i-init : goal.loop-i-init
loop-i-init c =
    let name = c.args.self.now.name in
    let k : name.count ≡ name.count + c.args.n - c.args.n = omega arith in
    cut-start component_limit name c.args.self.now.sized c.args.self.now.settled ∙ ap (λ (i : ℕ). name_of component_limit (take i (path_of_name name))) k

pub pop-name-requires : goal.pop-name-requires
pop-name-requires c =
    let l = c.loop-i in
    let name = c.args.self.now.name in
    let room = (settled-kept component_limit name c.args.self.now.settled).room in
    omega (arith, cut-count component_limit (path_of_name name) (name.count + c.args.n - l._i) l.name (omega (arith, length-path name)) l.invariant, length-path name)

pub loop-i-preserved : goal.loop-i-preserved
loop-i-preserved c =
    let l = c.loop-i in
    let name = c.args.self.now.name in
    let cs = path_of_name name in
    let room = (settled-kept component_limit name c.args.self.now.settled).room in
    let k : name.count + c.args.n - l._i - 1 ≡ name.count + c.args.n - (l._i + 1) = omega arith in
    c.pop-name.ensures
    ∙ cut-turn component_limit cs (name.count + c.args.n - l._i) l.name (omega arith) (omega (arith, length-path name)) room l.invariant
    ∙ ap (λ (i : ℕ). name_of component_limit (take i cs)) k

pub push-requires : goal.push-requires
push-requires c =
    let l = c.loop-i in
    let name = c.args.self.now.name in
    omega (arith, cut-count component_limit (path_of_name name) (name.count + c.args.n - l._i) l.name (omega (arith, length-path name, c.requires.0)) l.invariant, c.requires.0, c.requires.1)

pub returns : goal.returns
returns c =
    let l = c.loop-i in
    let name = c.args.self.now.name in
    let k : name.count + c.args.n - l._i ≡ c.args.n = omega (arith, c.requires.0) in
    c.push.ensures ∙ put-segment component_limit (path_of_name name) c.args.n c.args.segment l.name (omega (arith, length-path name, c.requires.0)) c.requires.1
    (l.invariant ∙ ap (λ (i : ℕ). name_of component_limit (take i (path_of_name name))) k)
