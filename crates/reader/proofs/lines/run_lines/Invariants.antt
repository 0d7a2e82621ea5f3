-- `run_lines` meets its contract. Assumes nothing.
use Rattle.std.proofs.Common.{◌≡◌, ◌+◌, ◌-◌, ◌≤◌, [], take}
use Rattle.text.specs.Text.{NEWLINE}
use Rattle.text.specs.Newline.{index_of, slice}
use Rattle.reader.specs.Desk.{state_of}
use Rattle.reader.specs.Lines.{RanText}
use Rattle.reader.proofs.lines.run_lines.Given as goal

abbrev pub invariant-loop-end : goal.invariant-loop-end
invariant-loop-end l =
    (l.at ≤ l.n) × (l.end ≡ l.at + index_of NEWLINE (slice l.at l.n l.text)) × (l.end ≤ l.n)
    × RanText (take l.at l.text) (state_of l.initial.desk) (state_of l.desk) [] l.initial.out.bytes l.initial.out.used l.out.bytes l.out.used

abbrev pub decreases-loop-end : goal.decreases-loop-end
decreases-loop-end l = l.n - l.end
