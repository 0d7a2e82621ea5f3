-- `saturation::link_span` meets its contract. The invariant: the nodes below m are linked. Assumes nothing.
use native.Mathlib.Omega.{arith}
use Rattle.links.proofs.Lent.{same_trans}
use Rattle.saturation.proofs.Does.{span-next}
use Rattle.saturation.proofs.link_span.Goals as goal

pub loop-m-preserved : goal.loop-m-preserved
loop-m-preserved c = (
  same_trans c.loop-m.invariant.0 c.link_to.ensures.same,
  span-next _ _ _ _ (omega (arith, c.requires.held.1.1)) (omega arith) c.loop-m.invariant.1 (rw c.loop-m.invariant.0.here at c.link_to.ensures.does),
)
