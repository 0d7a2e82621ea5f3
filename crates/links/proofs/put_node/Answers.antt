-- `links::put_node` meets its contract. Three stores. Assumes nothing.
use mathlib.Core.Path.{refl}
use Rattle.links.specs.Records.{put_node}
use Rattle.links.proofs.put_node.Goals as goal

pub returns : goal.returns
unfolding put_node
returns c = refl
