-- `write_over` is safe and ends: each turn leaves less of the line to read. Assumes nothing.
use Prim.Native.Nat.{◌-◌}
use lib.ListN.{length}
use Rattle.unmade.proofs.base.write_over.Given as goal

abbrev pub invariant-loop-c : goal.invariant-loop-c
invariant-loop-c l = Unit {0}

abbrev pub decreases-loop-c : goal.decreases-loop-c
decreases-loop-c l = length l.line - l.c.at
