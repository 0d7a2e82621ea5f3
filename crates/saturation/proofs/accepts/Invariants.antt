-- `saturation::accepts` meets its contract. The invariant: no node below m has the mark. Assumes nothing.
use Rattle.saturation.specs.Ends.{Marked}
use Rattle.saturation.proofs.accepts.Given as goal

abbrev pub invariant-loop-m : goal.invariant-loop-m
invariant-loop-m l = Marked l.buf l.cells l.fn.here.start l.m 3 → ⊥
