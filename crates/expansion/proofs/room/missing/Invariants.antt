-- `expansion::room::missing`: n of the symbols that the walk has passed lead to a kernel that no set has. Assumes nothing.
use Rattle.expansion.proofs.Missing.{Counted}
use Rattle.expansion.proofs.room.missing.Given as goal

abbrev pub invariant-loop-x : goal.invariant-loop-x
invariant-loop-x l = Counted l.rules l.words l.closure l.fn.symbols l.x-iterator l.n
