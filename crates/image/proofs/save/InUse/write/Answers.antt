-- The header, the levels, the bindings and the objects, each behind those before it.
use native.Mathlib.Omega.{arith}
use mathlib.Core.Path.{◌≡◌, ap}
use Prim.Native.Nat.{◌-◌}
use lib.ListN.{length, take, drop, length-drop}
use lib.Seq.{take_all}
use Rattle.image.proofs.Writing.{ranked-below, levels-ready, bound-ready, objects-ready, all-written}
use Rattle.image.proofs.save.InUse.write.Goals as goal

pub levels-requires : goal.levels-requires
levels-requires c =
    let w = c.args.self.now in
    let f = w.filled in
    let below : take (length w.levels.now - 1) (drop 1 w.levels.now) ≡ drop 1 w.levels.now = take_all _ _ (omega (arith, length-drop 1 w.levels.now)) in
    (ranked-below w.levels.now _ below f.ranked, omega (arith, ap length below, length-drop 1 w.levels.now, f.rooted, f.few), levels-ready w.levels.now w.bindings.now w.objects.now c.args.out.now _ below f c.requires c.header.ensures)

pub bound-requires : goal.bound-requires
bound-requires c =
    let w = c.args.self.now in
    let f = w.filled in
    let below : take (length w.levels.now - 1) (drop 1 w.levels.now) ≡ drop 1 w.levels.now = take_all _ _ (omega (arith, length-drop 1 w.levels.now)) in
    (f.few, f.counted, f.bounded, bound-ready w.levels.now w.bindings.now w.objects.now c.args.out.now _ below f c.requires c.header.ensures c.levels.ensures)

pub objects_place-at-requires : goal.objects_place-at-requires
objects_place-at-requires c =
    let w = c.args.self.now in
    let f = w.filled in
    let below : take (length w.levels.now - 1) (drop 1 w.levels.now) ≡ drop 1 w.levels.now = take_all _ _ (omega (arith, length-drop 1 w.levels.now)) in
    (omega (arith, ap length below, length-drop 1 w.levels.now, f.rooted, f.few), f.bounded)

pub objects-requires : goal.objects-requires
objects-requires c =
    let w = c.args.self.now in
    let f = w.filled in
    let below : take (length w.levels.now - 1) (drop 1 w.levels.now) ≡ drop 1 w.levels.now = take_all _ _ (omega (arith, length-drop 1 w.levels.now)) in
    (f.made, objects-ready w.levels.now w.bindings.now w.objects.now c.args.out.now _ below f c.requires c.header.ensures c.levels.ensures c.bound.ensures c.objects_place-at.ensures)

pub returns : goal.returns
returns c =
    let w = c.args.self.now in
    let f = w.filled in
    let below : take (length w.levels.now - 1) (drop 1 w.levels.now) ≡ drop 1 w.levels.now = take_all _ _ (omega (arith, length-drop 1 w.levels.now)) in
    all-written w.levels.now w.bindings.now w.objects.now c.args.out.now _ below f c.requires c.header.ensures c.levels.ensures c.bound.ensures c.objects_place-at.ensures c.objects.ensures
