-- `put_entries` meets its contract. Assumes nothing.
use Prim.Native.Nat.{zero-le}
use native.Mathlib.Omega.{arith}
use Rattle.listing.specs.Walk.{used, entry_of}
use Rattle.listing.proofs.Lengths.{entries_length}
use Rattle.listing.proofs.Walks.{put-none, put-turn}
use Rattle.listing.proofs.contents_line.put_entries.Goals as goal

pub loop-s-init : goal.loop-s-init
loop-s-init c = put-none (used c.args.cells.now) (entry_of c.args.cells.now) 0

pub put_entry-requires : goal.put_entry-requires
put_entry-requires c = omega (arith, entries_length c.args.cells.now c.loop-s.s (omega arith))

pub loop-s-preserved : goal.loop-s-preserved
loop-s-preserved c = put-turn (used c.args.cells.now) (entry_of c.args.cells.now) 0 c.loop-s.invariant zero-le c.put_entry.ensures
