-- The graph as the code holds it: its two slices lent, its counts, and the position at hand. Assumes nothing.
use Rattle.std.specs.Prelude.{◌≡◌, ℕ}
use Rattle.links.specs.declared.Here.{Here}
use Rattle.links.specs.declared.Links.{Links}
use Rattle.links.specs.Records.{Graph, graph}
use Rattle.links.specs.Held.{Chained}

abbrev pub graph_of : Links → Graph
graph_of x = graph x.buf.now x.at.now x.counts

-- a walk along the chains of its links stays inside
abbrev pub InChains : Links → Type 0
InChains x = Chained x.buf.now x.counts.nodes x.counts.links

-- the same slices are lent, whatever they hold now
pub record SameSlices (x y : Links) : Type 0 where
  pub buf : y.buf.ghost_name ≡ x.buf.ghost_name
  pub at : y.at.ghost_name ≡ x.at.ghost_name

-- and the position at hand is the same
pub record SamePlace (x y : Links) : Type 0 where
  pub slices : SameSlices x y
  pub here : y.here ≡ x.here

-- the position of the root
abbrev pub root : ℕ → ℕ → Here
root size sets = record { position = 0; start = 0; size = size; sets = sets }
