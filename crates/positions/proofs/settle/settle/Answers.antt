-- `positions::settle::settle` meets its contract. The invariant: the steps from the place that was entered reach this one
-- (`Settling`). Each turn but the last leaves one more expanded set of a node here. Assumes nothing.
use mathlib.Core.Path.{refl}
use native.Mathlib.Omega.{arith}
use Rattle.links.proofs.Lent.{same_trans}
use Rattle.positions.proofs.Settling.{settling_start, settling_over, settling-ready, settling-expandable, settling-no-sets, settling-next, settling-less}
use Rattle.positions.proofs.settle.settle.Goals as goal

pub loop-links-init : goal.loop-links-init
loop-links-init c = (record { slices = record { buf = refl; at = refl }; here = refl }, settling_start c.requires.0)

pub returns-then-links-ne0-clause-settles : goal.returns-then-links-ne0-clause-settles
returns-then-links-ne0-clause-settles c = settling_over c.loop-links.invariant.1 (rw c.loop-links.invariant.0.here at c.saturate.ensures.saturates) c.if-links-ne0.true

pub returns-in_default-clause-settles : goal.returns-in_default-clause-settles
returns-in_default-clause-settles c =
    let e = (same_trans c.loop-links.invariant.0 c.saturate.ensures.same).here in
    settling-ready c.loop-links.invariant.1 (rw c.loop-links.invariant.0.here at c.saturate.ensures.saturates) (omega arith) (rw e at c.in_default.ensures)

pub expand-requires : goal.expand-requires
expand-requires c =
    let e = (same_trans c.loop-links.invariant.0 c.saturate.ensures.same).here in
    settling-expandable c.loop-links.invariant.1 (rw c.loop-links.invariant.0.here at c.saturate.ensures.saturates) (omega arith) (rw e at c.in-Some.ensures)

pub returns-then-not-expand-clause-settles : goal.returns-then-not-expand-clause-settles
returns-then-not-expand-clause-settles c =
    let e = (same_trans c.loop-links.invariant.0 c.saturate.ensures.same).here in
    settling-no-sets c.loop-links.invariant.1 (rw c.loop-links.invariant.0.here at c.saturate.ensures.saturates) (omega arith) (rw e at c.in-Some.ensures) c.expand.ensures
    c.if-not-expand.true

pub loop-links-smaller : goal.loop-links-smaller
loop-links-smaller c =
    let e = (same_trans c.loop-links.invariant.0 c.saturate.ensures.same).here in
    settling-less c.loop-links.invariant.1 (rw c.loop-links.invariant.0.here at c.saturate.ensures.saturates) (omega arith) (rw e at c.in-Some.ensures) c.expand.ensures
    c.if-not-expand.false

pub loop-links-preserved : goal.loop-links-preserved
loop-links-preserved c =
    let e = (same_trans c.loop-links.invariant.0 c.saturate.ensures.same).here in (
      same_trans c.loop-links.invariant.0 c.saturate.ensures.same,
      settling-next c.loop-links.invariant.1 (rw c.loop-links.invariant.0.here at c.saturate.ensures.saturates) (omega arith) (rw e at c.in-Some.ensures) c.expand.ensures
          c.if-not-expand.false,
    )
