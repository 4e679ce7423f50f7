-- The value is what the bytes that were taken from the back spell; each byte before them is read in front, so that 256 times the value has room
-- while fewer than 8 are read.
use native.Mathlib.Omega.{arith}
use mathlib.Core.Path.{ap}
use lib.ListN.{length}
use Rattle.std.proofs.lemmas.List.{length_push}
use Rattle.pkg_length.proofs.Laws.{spelt-none, spelt-turn, spelt-all, spelt-room}
use Rattle.pkg_length.proofs.inner.little_endian.Goals as goal

pub loop-b-init : goal.loop-b-init
loop-b-init c = rw (c.into_iter-b-iterator.ensures.into_iter_gives, c.rev-b-items.ensures.source, c.iter.ensures.rest) (spelt-none _)

pub overflow_mul-value : goal.overflow_mul-value
overflow_mul-value c = omega (arith, spelt-room _ _ _ (λ i. (c.type_inv.bytes i).fits) c.loop-b.invariant (omega (arith, ap length c.in-Some.ensures.steps, length_push c.next.new.self.iter.rest.now c.in-Some.b.now)) c.requires)

pub overflow_add-value : goal.overflow_add-value
overflow_add-value c =
    omega (arith, spelt-room _ _ _ (λ i. (c.type_inv.bytes i).fits) c.loop-b.invariant (omega (arith, ap length c.in-Some.ensures.steps, length_push c.next.new.self.iter.rest.now c.in-Some.b.now)) c.requires)

pub loop-b-preserved : goal.loop-b-preserved
loop-b-preserved c = rw c.from.ensures (spelt-turn _ _ _ _ _ c.loop-b.invariant c.in-Some.ensures.steps)

pub returns : goal.returns
returns c = spelt-all _ _ _ c.loop-b.invariant c.in-None.ensures.steps.0
