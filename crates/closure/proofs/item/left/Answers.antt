-- `closure::item::left` meets its contract. The left symbol is the number that is read. Assumes nothing.
use Rattle.closure.proofs.Rules.{left_read}
use Rattle.closure.proofs.item.left.Goals as goal

pub returns : goal.returns
returns c =
    left_read c.args.rules.now c.requires.0 c.args.r c.requires.1
