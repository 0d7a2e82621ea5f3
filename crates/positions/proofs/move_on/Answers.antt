-- `positions::move_on` meets its contract. Assumes nothing.
use mathlib.Core.Path.{refl}
use native.Mathlib.Decide.{ℕ_discrete}
use native.Mathlib.Omega.{arith}
use borrow.Author.Tests.{eq-eqb, ne_eqb}
use Rattle.positions.proofs.Ends.{ends-over, ends_stuck, advances}
use Rattle.positions.proofs.move_on.Goals as goal

pub returns-then-links-ne0-clause-moves : goal.returns-then-links-ne0-clause-moves
returns-then-links-ne0-clause-moves c = λ m x S. ends-over S c.shift.ensures.shifts c.if-links-ne0.true

pub returns-clause-moves : goal.returns-clause-moves
returns-clause-moves c = λ m x S.
    elim (ℕ_discrete c.shift.new.links.counts.links c.args.links.now.counts.links) [
      | yes e ↦ rw (eq-eqb _ _ e, e) (ends_stuck S c.shift.ensures.shifts (omega arith) e)
      | no d ↦ rw (ne_eqb _ _ d) (rw c.shift.ensures.here (refl, advances S c.shift.ensures.shifts (omega arith) d))
    ]
