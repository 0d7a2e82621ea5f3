-- `collection::reach::reach` meets its contract. The invariant: what is marked is reached, and the sets that were taken are
-- scanned; a set is queued once, so the queue never holds more than 256. Assumes nothing.
use mathlib.Core.Path.{refl, sym, subst, ◌∙◌}
use native.Mathlib.Omega.{arith}
use Rattle.collection.specs.Reach.{Row, Marks}
use Rattle.collection.proofs.Scanned.{scan_begin, next_row, take_next, scan_end, queue_short}
use Rattle.collection.proofs.reach.reach.Goals as goal

pub loop-s-init : goal.loop-s-init
loop-s-init c = scan_begin (omega arith) refl

pub next-requires : goal.next-requires
next-requires c = queue_short c.loop-s.invariant

pub scan-requires-clause-row : goal.scan-requires-clause-row
scan-requires-clause-row c =
    let (l, e, d) = c.in-Some.ensures.next in subst (Row c.args.cells.now) (sym e) (next_row c.requires c.loop-s.invariant l)

pub loop-s-smaller : goal.loop-s-smaller
loop-s-smaller c = omega (arith, queue_short c.loop-s.invariant, c.in-Some.ensures.next.0, c.in-Some.ensures.next.2, c.scan.ensures.taken)

pub loop-s-preserved : goal.loop-s-preserved
loop-s-preserved c =
    let (l, e, d) = c.in-Some.ensures.next in take_next c.requires c.loop-s.invariant l e c.in-Some.ensures.same (c.scan.ensures.taken ∙ d) c.scan.ensures.adds

pub returns : goal.returns
returns c = subst (Marks _ _) (sym c.in_default.ensures.same.0) (scan_end c.requires c.loop-s.invariant c.in_default.ensures.next)
