-- `contents` meets its contract. Assumes nothing.
use native.Mathlib.Omega.{arith}
use Rattle.text.proofs.Putting.{adds_then}
use Rattle.listing.specs.Walk.{contents_of}
use Rattle.listing.proofs.Lengths.{entries_length}
use Rattle.listing.proofs.contents_line.contents.Goals as goal

pub put_byte-requires-2 : goal.put_byte-requires-2
put_byte-requires-2 c = omega (arith, entries_length c.args.cells.now c.args.sets (omega arith))

pub returns-clause-line : goal.returns-clause-line
unfolding contents_of
returns-clause-line c = adds_then c.put_byte.ensures (adds_then c.put_entries.ensures c.put_byte-2.ensures)

pub returns-clause-within : goal.returns-clause-within
returns-clause-within c = omega (arith, entries_length c.args.cells.now c.args.sets (omega arith))
