-- `saturation::shift` meets its contract. From the next position's point of view no node stands there yet. Assumes nothing.
use Rattle.table.specs.Layout.{mem}
use Rattle.saturation.proofs.Table.{cells_in}
use Rattle.saturation.proofs.Shifted.{shifts}
use Rattle.saturation.proofs.shift.Goals as goal

pub link_span-requires-clause-le_x : goal.link_span-requires-clause-le_x
link_span-requires-clause-le_x c = (c.requires.le_x, cells_in (mem c.args.rules.now c.args.cells.now c.args.words.now) c.requires.formed.0 c.requires.formed.1)

pub returns-clause-shifts : goal.returns-clause-shifts
returns-clause-shifts c =
    shifts c.requires.formed.0 c.requires.held.0 c.requires.formed.1 c.requires.held.1.0 _ c.requires.le_x.0 c.requires.le_x.1 c.link_span.ensures.does
