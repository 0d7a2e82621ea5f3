-- `levels::Level::under` meets its contract. The invariant: the nodes under the first i of the level are on the other list, and the level is as it was. Assumes nothing.
use native.Mathlib.Omega.{arith}
use Rattle.levels.proofs.Sparse.{few}
use Rattle.levels.proofs.Below.{node-low, go-next, go_end}
use Rattle.levels.proofs.Level.under.Goals as goal

pub node-n-requires : goal.node-n-requires
node-n-requires c = (omega arith, (omega arith, omega (arith, few c.requires.listed, c.requires.chained.few)))

pub spread-requires-clause-work_len : goal.spread-requires-clause-work_len
spread-requires-clause-work_len c =
    (omega arith, (omega (arith, c.loop-i.invariant.0), node-low c.loop-i.invariant.1 c.loop-i-test.true (omega (arith, few c.requires.listed, c.requires.chained.few)) c.node-n.ensures c.requires.listed))

pub loop-i-preserved : goal.loop-i-preserved
loop-i-preserved c =
    (omega (arith, c.loop-i.invariant.0), rw c.spread.ensures.side (go-next c.loop-i.invariant.1 c.loop-i-test.true (omega (arith, few c.requires.listed, c.requires.chained.few)) c.node-n.ensures (omega (arith, c.loop-i.invariant.0)) (omega (arith, c.loop-i.invariant.0)) c.spread.ensures.spread))

pub returns : goal.returns
returns c = (omega (arith, c.loop-i.invariant.0), go_end c.loop-i.invariant.1 (omega arith))
