-- `levels::Level::spread` meets its contract. The invariant: the walk along the chain stands at link k, and the nodes under those passed are on the list. Assumes nothing.
use mathlib.Core.Path.{◌≡◌}
use Rattle.levels.proofs.Below.{Spreading}
use Rattle.levels.proofs.Level.spread.Given as goal

abbrev pub invariant-loop-k : goal.invariant-loop-k
invariant-loop-k l = (l.self.side ≡ l.initial.self.side) × Spreading l.buf l.links l.self.side l.nodes l.n l.k l.initial.work l.initial.self.count l.work l.self.count

abbrev pub decreases-loop-k : goal.decreases-loop-k
decreases-loop-k l = l.k
