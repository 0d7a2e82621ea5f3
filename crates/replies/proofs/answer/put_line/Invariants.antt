-- `put_line`: the numbers before n are put, each in 5 bytes at most. Assumes nothing.
use Rattle.std.proofs.Common.{◌≤◌, ◌+◌, ◌*◌, take}
use Rattle.text.specs.Text.{spaced}
use Rattle.text.specs.Puts.{Adds}
use Rattle.replies.proofs.answer.put_line.Given as goal

abbrev pub invariant-loop-n : goal.invariant-loop-n
invariant-loop-n l = Adds l.initial.text l.text (spaced (take l.n-index l.more)) × (l.text.end ≤ l.initial.text.end + 5 * l.n-index)
