-- `accept_digit` meets its contract. Assumes nothing.
use mathlib.Core.Path.{refl, ap}
use borrow.Author.Tests.{eq-eqb, ne_eqb}
use Rattle.laws.proofs.Choice.{when_yes, when_no}
use Rattle.text.specs.Text.{digit}
use Rattle.listing.proofs.set_body.accept_digit.Goals as goal

pub returns-then-mark-eq-ACCEPTING : goal.returns-then-mark-eq-ACCEPTING
returns-then-mark-eq-ACCEPTING c = ap digit (when_yes 0 (eq-eqb _ _ c.if-mark-eq-ACCEPTING.true) refl)

pub returns-else-mark-eq-ACCEPTING : goal.returns-else-mark-eq-ACCEPTING
returns-else-mark-eq-ACCEPTING c = ap digit (when_no 1 (ne_eqb _ _ c.if-mark-eq-ACCEPTING.false) refl)
