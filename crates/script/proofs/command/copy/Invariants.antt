-- `copy` meets its contract. The loop's invariant: i numbers stand in the buffer, and it is as it was beyond them. Assumes nothing.
use mathlib.Core.Path.{◌≡◌}
use mathlib.Core.List.{◌++◌}
use lib.ListN.{length, take, drop}
use Rattle.script.proofs.command.copy.Given as goal

abbrev pub invariant-loop-i : goal.invariant-loop-i
invariant-loop-i l = (length l.symbols ≡ length l.fn.symbols) × (l.symbols ≡ take l.i l.ns ++ drop l.i l.fn.symbols)
