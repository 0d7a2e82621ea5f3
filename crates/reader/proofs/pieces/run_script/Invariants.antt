-- `run_script` meets its contract. Assumes nothing.
use Rattle.std.proofs.Common.{take}
use Rattle.reader.specs.declared.pieces.Standing.TheVariants.{More}
use Rattle.reader.specs.Desk.{state_of}
use Rattle.reader.proofs.Turns.{SoFar}
use Rattle.reader.proofs.pieces.run_script.Given as goal

abbrev pub invariant-loop : goal.invariant-loop
invariant-loop g l =
    SoFar l.counter More (state_of l.initial.desk) (state_of l.desk) (take l.held.len l.held.bytes)
