-- `levels::Level::spread` meets its contract. The invariant: the walk along the chain stands at link k, and the nodes under those passed are on the list. Assumes nothing.
use mathlib.Core.Path.{◌∙◌}
use Rattle.levels.proofs.Below.{spread_next, under_low}
use Rattle.levels.proofs.Level.spread.Goals as goal

pub loop-k-preserved : goal.loop-k-preserved
loop-k-preserved c =
    let S = c.loop-k.invariant.1 in (
      c.put.ensures.side ∙ c.loop-k.invariant.0,
      rw c.put.ensures.side (spread_next c.requires.chained S c.loop-k-test.true c.under.ensures c.before-k.ensures
          (c.put.ensures.puts _ c.requires.chained.few (under_low c.requires.chained S c.loop-k-test.true c.under.ensures) S.made)),
    )
