-- `saturation::first_waiting` meets its contract. The mark 1 is that of an unexpanded set. Assumes nothing.
use Rattle.table.specs.Layout.{mem}
use Rattle.saturation.proofs.Marks.{waiting}
use Rattle.saturation.proofs.first_waiting.Goals as goal

pub returns : goal.returns
returns c = waiting (mem c.args.rules.now c.args.cells.now c.args.words.now) c.requires.standing.1 c.requires.formed.1 _ c.lowest.ensures
