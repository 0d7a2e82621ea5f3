-- `saturation::link_level` meets its contract. The invariant: the first i nodes of the level are linked. Assumes nothing.
use native.Mathlib.Omega.{arith}
use Rattle.links.proofs.Chain.{chained}
use Rattle.links.proofs.Lent.{same_trans}
use Rattle.levels.proofs.Sparse.{few}
use Rattle.saturation.proofs.Does.{list-next}
use Rattle.saturation.proofs.link_level.Goals as goal

pub node-requires : goal.node-requires
node-requires c = (omega arith, (omega arith, omega (arith, few c.requires.work_len.1.1, (chained c.requires.held.core).few)))

pub loop-i-preserved : goal.loop-i-preserved
loop-i-preserved c =
    let l = c.requires.work_len.1.1.inside c.loop-i.i c.loop-i-test.true in (
      same_trans c.loop-i.invariant.0 c.link_to.ensures.same,
      list-next _ _ _ _ _ _ c.node.ensures (omega (arith, c.node.ensures)) c.loop-i.invariant.1 (rw c.loop-i.invariant.0.here at c.link_to.ensures.does),
    )
