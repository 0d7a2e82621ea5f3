-- `links::Links::has_link` meets its contract. The invariant: the walk along the chain stands at link k, and no link that it passed goes to m. Assumes nothing.
use mathlib.Core.Logic.{◌≢◌}
use Rattle.links.specs.Records.{under}
use Rattle.links.proofs.Chain.{Walk}
use Rattle.links.proofs.Links.has_link.Given as goal

abbrev pub invariant-loop-k : goal.invariant-loop-k
invariant-loop-k l = Walk l.self.buf.now l.self.counts.links l.n l.k (λ j. under l.self.buf.now j ≢ l.m)

abbrev pub decreases-loop-k : goal.decreases-loop-k
decreases-loop-k l = l.k
