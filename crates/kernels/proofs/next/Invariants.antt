-- `kernels::next`: there is no bit from `from` up to word i.
use Rattle.std.proofs.Common.{◌*◌, ◌≤◌}
use Rattle.kernels.proofs.NextBit.{NoneIn}
use Rattle.kernels.proofs.next.Given as goal

abbrev pub invariant-loop-i : goal.invariant-loop-i
invariant-loop-i l = (l.from ≤ l.i * 64) × NoneIn l.words l.at l.from (l.i * 64)
