-- `closure::item::ends` meets its contract. The length is the number that is read. Assumes nothing.
use mathlib.Core.Path.{ap}
use Prim.Native.Nat.{◌%◌}
use lib.Dec.{eqb}
use Rattle.closure.specs.Item.{ends_at}
use Rattle.closure.proofs.Rules.{end_read}
use Rattle.closure.proofs.item.ends.Goals as goal

pub returns : goal.returns
unfolding ends_at
returns c =
    ap (eqb (c.args.item % 8)) (end_read c.args.rules.now c.requires.0 c.args.item c.requires.1)
