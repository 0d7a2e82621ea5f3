-- `saturation::saturate` meets its contract. The invariant: passes so far. What is left of the pool falls with each but the last. Assumes nothing.
use native.Mathlib.Omega.{arith}
use Rattle.links.proofs.Lent.{same_trans}
use Rattle.saturation.proofs.Passed.{pass_next, pass_over, pass_last}
use Rattle.saturation.proofs.saturate.Goals as goal

pub returns-then-now-ne0-clause-saturates : goal.returns-then-now-ne0-clause-saturates
returns-then-now-ne0-clause-saturates c =
    pass_over c.requires.held.1.0 c.loop-was.invariant.1 (rw c.loop-was.invariant.0.here at c.pass.ensures.works) c.if-now-ne0.true

pub returns-then-now-was-clause-saturates : goal.returns-then-now-was-clause-saturates
returns-then-now-was-clause-saturates c =
    pass_last c.requires.formed.0 c.requires.formed.1 c.requires.held.0 c.requires.held.1.0 c.loop-was.invariant.1
    (rw c.loop-was.invariant.0.here at c.pass.ensures.works) c.if-now-ne0.false (omega arith)

pub loop-was-preserved : goal.loop-was-preserved
loop-was-preserved c =
    (same_trans c.loop-was.invariant.0 c.pass.ensures.same, pass_next c.loop-was.invariant.1 (rw c.loop-was.invariant.0.here at c.pass.ensures.works))
