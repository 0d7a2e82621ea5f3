-- `saturation::pass` meets its contract. The invariant: the nodes below n are done. Assumes nothing.
use native.Mathlib.Omega.{arith}
use Rattle.links.proofs.Lent.{same_trans}
use Rattle.saturation.proofs.Works.{all-next}
use Rattle.saturation.proofs.pass.Goals as goal

pub loop-n-preserved : goal.loop-n-preserved
loop-n-preserved c = (
  same_trans c.loop-n.invariant.0 c.reduce_node.ensures.same,
  omega (arith, c.loop-n.invariant.1),
  all-next _ c.loop-n-test.true c.loop-n.invariant.2 (rw c.loop-n.invariant.0.here at c.reduce_node.ensures.works),
)
