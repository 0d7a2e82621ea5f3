-- `table::bytes::clear` meets its contract: the part is filled with zeros. Assumes nothing.
use Rattle.std.proofs.Common.{arith}
use Rattle.kernels.proofs.Parts.{part_zeroed}
use Rattle.table.proofs.bytes.clear.Goals as goal

pub returns : goal.returns
returns c = part_zeroed _ _ _ _ _ (omega arith) c.requires (c.fill.ensures.after (λ y e. e))
