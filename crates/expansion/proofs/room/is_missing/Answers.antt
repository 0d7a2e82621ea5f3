-- `expansion::room::is_missing` meets its contract. Assumes nothing.
use Rattle.expansion.proofs.Missing.{test-missing}
use Rattle.expansion.proofs.room.is_missing.Goals as goal

pub returns : goal.returns
returns c = test-missing c.args.rules.now c.args.words.now c.args.closure c.args.x c.moved-kernel.ensures c.find.ensures
