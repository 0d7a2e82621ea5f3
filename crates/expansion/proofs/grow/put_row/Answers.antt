-- `expansion::grow::put_row` meets its contract. Assumes nothing.
use native.Mathlib.Omega.{arith}
use Rattle.expansion.proofs.Put.{put_words}
use Rattle.expansion.proofs.grow.put_row.Goals as goal

pub returns : goal.returns
returns c = put_words _ _ _ _ _ c.copy_from_slice.ensures.after (omega arith) (omega arith) (omega arith)
