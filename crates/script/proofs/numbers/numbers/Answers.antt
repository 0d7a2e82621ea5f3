-- `numbers` meets its contract. The loop's invariant: n numbers are passed, in the only way in which the text can be read as
-- numbers. Assumes nothing.
use mathlib.Core.Path.{refl}
use native.Mathlib.Omega.{arith}
use lib.ListN.{length-set}
use Rattle.script.specs.Reading.{NumberAt, LineEndAt}
use Rattle.script.proofs.Spaced.{passed_none, passed-more, passed-end, passed-all, passed-full, passed-stuck}
use Rattle.script.proofs.numbers.numbers.Goals as goal

pub loop-n-init : goal.loop-n-init
loop-n-init c = (refl, passed_none _ _ _)

pub returns-in-Some : goal.returns-in-Some
unfolding LineEndAt
returns-in-Some c = passed-end c.loop-n.invariant.1 (omega arith) c.in-Some.ensures

pub returns-in_err-x : goal.returns-in_err-x
returns-in_err-x c = passed-stuck c.loop-n.invariant.1 c.in_default.ensures c.in_err-x.ensures c.from_residual.ensures

pub overflow_cast-out : goal.overflow_cast-out
unfolding NumberAt
overflow_cast-out c = omega (arith, c.in_ok-x.ensures.starts.small)

pub loop-n-preserved : goal.loop-n-preserved
unfolding NumberAt
loop-n-preserved c = (simp length-set c.loop-n.invariant.0, passed-more c.loop-n.invariant.1 (omega arith) c.in_ok-x.ensures)

pub returns-in_err-after : goal.returns-in_err-after
returns-in_err-after c = passed-full c.loop-n.invariant.1 (omega arith) c.in_err-after.ensures c.from_residual-in_err-after.ensures

pub returns : goal.returns
unfolding LineEndAt
returns c = passed-all c.loop-n.invariant.1 (omega arith) c.in_ok-after.ensures
