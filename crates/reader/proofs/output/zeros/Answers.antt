-- `zeros` meets its contract. Assumes nothing.
use Prim.Native.Nat.{ℕ}
use lib.ListN.{length-replicate}
use Rattle.reader.proofs.output.zeros.Goals as goal

pub returns : goal.returns
returns c = length-replicate {A = ℕ} 1122304 0
