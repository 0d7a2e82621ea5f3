-- `put_item` meets its contract. Assumes nothing.
use Rattle.text.proofs.Putting.{adds_then}
use Rattle.listing.specs.Walk.{item_of}
use Rattle.listing.proofs.set_body.put_item.Goals as goal

pub returns : goal.returns
unfolding item_of
returns c = adds_then c.put_spaced.ensures (adds_then c.put_byte.ensures c.put_number.ensures)
