-- `put_entries`: the entries of the sets below s are put. Assumes nothing.
use Rattle.listing.specs.Walk.{listed, used, entry_of}
use Rattle.text.specs.Puts.{Adds}
use Rattle.listing.proofs.contents_line.put_entries.Given as goal

abbrev pub invariant-loop-s : goal.invariant-loop-s
invariant-loop-s l = Adds l.initial.text l.text (listed (used l.cells) (entry_of l.cells) 0 l.s)
