-- Each turn puts one record more in its place.
use Prim.Native.Nat.{◌+◌, ◌-◌}
use lib.ListN.{drop, length-drop}
use lib.Seq.{length-take-le}
use Rattle.namespace.specs.Listing.{word_record}
use Rattle.namespace.proofs.ListCalls.{filled-more}
use native.Mathlib.Omega.{arith}
use Rattle.namespace.proofs.levels.Goals as goal

pub loop-i-preserved : goal.loop-i-preserved
loop-i-preserved c =
    let l = c.in_ok-found.found in
    let inside = c.in_ok-found.ensures.inside in
    let fits = c.in_ok-found.ensures.fits in
    let long = length-take-le (l.at + l.count - l.at) (drop l.at c.args.table.now) (omega (arith, length-drop l.at c.args.table.now)) in
    filled-more word_record _ c.args.list.now c.loop-i.list c.loop-i.i _ (omega arith) (omega arith) c.loop-i.invariant c.read.ensures
