-- `lookup::make` meets its contract. Assumes nothing.
use mathlib.Core.Path.{ap}
use Rattle.table.specs.Layout.{sets}
use Rattle.lookup.specs.Lookup.{made}
use Rattle.lookup.proofs.make.Goals as goal

pub returns : goal.returns
unfolding made
returns c = ap (sets _) c.copy.ensures
