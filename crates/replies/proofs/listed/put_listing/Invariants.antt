-- `put_listing`: the bodies of the sets below s are put, each in 8,192 bytes at most. Assumes nothing.
use Rattle.std.proofs.Common.{◌≤◌, ◌+◌, ◌*◌}
use Rattle.table.specs.Layout.{mem, view}
use Rattle.text.specs.Puts.{Adds}
use Rattle.listing.specs.Printed.{body}
use Rattle.listing.specs.Walk.{listed, used}
use Rattle.replies.proofs.listed.put_listing.Given as goal

abbrev pub invariant-loop-s : goal.invariant-loop-s
invariant-loop-s l =
    Adds l.initial.text l.text (listed (used l.cells) (body (view (mem l.rules l.cells l.words))) 0 l.s)
    × (l.text.end ≤ l.initial.text.end + 8192 * l.s)
