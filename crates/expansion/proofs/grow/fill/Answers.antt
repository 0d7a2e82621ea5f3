-- `expansion::grow::fill` meets its contract. Assumes nothing.
use Rattle.expansion.proofs.Filled.{fill_end}
use Rattle.expansion.proofs.grow.fill.Goals as goal

pub returns : goal.returns
returns c = fill_end _ _ _ _ _ c.put_row.ensures
