-- What has been read lies within the buffer.
use Rattle.std.proofs.Common.{◌≤◌, length}
use Rattle.unmade.proofs.cases.read_full.Given as goal

abbrev pub invariant-loop : goal.invariant-loop
invariant-loop g l = l.n ≤ length l.text
