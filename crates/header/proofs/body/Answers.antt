-- A header that was read tells a part of the bytes.
use native.Mathlib.Omega.{arith}
use Rattle.header.proofs.Headers.{body-inside}
use Rattle.header.proofs.body.Goals as goal

pub slice_bounds-result-count : goal.slice_bounds-result-count
slice_bounds-result-count c = omega (arith, body-inside _ _ c.in-Ok.ensures)

pub slice_bounds-result-start : goal.slice_bounds-result-start
slice_bounds-result-start c = omega (arith, body-inside _ _ c.in-Ok.ensures)

pub slice_bounds-result-end-2 : goal.slice_bounds-result-end-2
slice_bounds-result-end-2 c = omega (arith, body-inside _ _ c.in-Ok.ensures)
