-- `table::start::put_starts` meets its contract. The invariant: the items of the rules below r are put. Assumes nothing.
use mathlib.Core.Path.{◌≡◌}
use lib.ListN.{length}
use Rattle.laws.specs.Loops.{up_to}
use Rattle.table.specs.Start.{put_start}
use Rattle.table.proofs.start.put_starts.Given as goal

abbrev pub invariant-loop-r : goal.invariant-loop-r
invariant-loop-r l = (length l.words ≡ length l.initial.words) × (l.words ≡ up_to l.r (put_start l.rules) l.initial.words)
