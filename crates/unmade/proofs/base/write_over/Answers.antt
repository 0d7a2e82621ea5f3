-- `write_over` is safe and ends: each turn leaves less of the line to read. Assumes nothing.
use native.Mathlib.Omega.{arith}
use Rattle.script.specs.Reading.{NumberAt}
use Rattle.unmade.proofs.base.write_over.Goals as goal

pub loop-c-smaller : goal.loop-c-smaller
unfolding NumberAt
loop-c-smaller c = omega (arith, c.in_ok-slice.ensures.past, c.in_ok-place.ensures.past, c.in_ok-number.ensures.past, c.loop-c-test.true)
