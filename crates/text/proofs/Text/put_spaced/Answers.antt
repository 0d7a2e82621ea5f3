-- `put_spaced` meets its contract. Assumes nothing.
use Rattle.text.proofs.Putting.{adds_then}
use Rattle.text.proofs.Text.put_spaced.Goals as goal

pub returns : goal.returns
returns c = adds_then c.put_byte.ensures c.put_number.ensures
