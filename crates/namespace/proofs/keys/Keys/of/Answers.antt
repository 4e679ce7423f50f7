-- The keys so far are the path's, the root's first.
use mathlib.Core.Path.{refl, ap, sym, subst, ◌∙◌}
use mathlib.Core.List.{List}
use Prim.Native.Nat.{ℕ}
use lib.ListN.{get_or, length-set}
use Rattle.name_object.specs.Component.{component_limit}
use Rattle.name_object.specs.Memory.{path_of_name}
use Rattle.table.specs.Tree.{number}
use Rattle.table.specs.Inside.{Keyed}
use Rattle.namespace.proofs.PathKeys.{settled-count, settled-kept, kept-keyed, keys-first, keys-turn, keys-whole}
use native.Mathlib.Omega.{arith}
use Rattle.namespace.proofs.keys.Keys.of.Goals as goal

pub loop-i-init : goal.loop-i-init
loop-i-init c =
    let len = c.args.path.now.sized in
    ((settled-count component_limit c.args.path.now.name c.args.path.now.settled).1, refl, keys-first component_limit c.args.path.now.name len c.args.path.now.settled)

pub loop-i-preserved : goal.loop-i-preserved
loop-i-preserved c =
    let l = c.loop-i in
    let len = c.args.path.now.sized in
    (l.invariant.0, simp length-set l.invariant.1, keys-turn component_limit c.args.path.now.name len c.args.path.now.settled l.keys l.i _ (omega arith) (omega arith) (omega arith) l.invariant.2 (c.number.ensures ∙ ap (λ (l : List ℕ). number (get_or l 0 0) (get_or l 1 0) (get_or l 2 0) (get_or l 3 0)) c.component-characters.ensures))

pub invariant_of-result : goal.invariant_of-result
invariant_of-result c =
    let l = c.loop-i in
    let len = c.args.path.now.sized in
    let n = settled-count component_limit c.args.path.now.name c.args.path.now.settled in
    let w = keys-whole component_limit c.args.path.now.name len c.args.path.now.settled l.keys l.i (omega (arith, n)) l.invariant.2 in
    (omega (arith, n), l.invariant.0, subst (Keyed component_limit) (sym w) (kept-keyed component_limit (path_of_name c.args.path.now.name) (settled-kept component_limit c.args.path.now.name c.args.path.now.settled)))

pub returns : goal.returns
returns c =
    let l = c.loop-i in
    let len = c.args.path.now.sized in
    let n = settled-count component_limit c.args.path.now.name c.args.path.now.settled in
    keys-whole component_limit c.args.path.now.name len c.args.path.now.settled l.keys l.i (omega (arith, n)) l.invariant.2
