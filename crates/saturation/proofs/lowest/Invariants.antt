-- `saturation::lowest` meets its contract. The invariant: `best` is the lowest of the nodes below m. Assumes nothing.
use Rattle.saturation.specs.Ends.{LowestIn}
use Rattle.saturation.proofs.lowest.Given as goal

abbrev pub invariant-loop-m : goal.invariant-loop-m
invariant-loop-m l = LowestIn l.buf l.cells l.fn.here.start l.m l.best
