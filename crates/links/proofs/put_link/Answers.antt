-- `links::put_link` meets its contract. Four stores. Assumes nothing.
use mathlib.Core.Path.{refl}
use Rattle.links.specs.Records.{put_link}
use Rattle.links.proofs.put_link.Goals as goal

pub returns : goal.returns
unfolding put_link
returns c = refl
