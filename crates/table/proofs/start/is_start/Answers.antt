-- `table::start::is_start` meets its contract: both tests, in the definition's order. Assumes nothing.
use mathlib.Core.Path.{sym, ap, ◌∙◌}
use borrow.Author.Tests.{eq-eqb, ne_eqb}
use lib.Dec.{eqb}
use Rattle.laws.proofs.Choice.{and_stop, and_on}
use Rattle.table.specs.Start.{is_start}
use Rattle.table.proofs.start.is_start.Goals as goal

pub returns-then-state-eq-CURRENT : goal.returns-then-state-eq-CURRENT
unfolding is_start
returns-then-state-eq-CURRENT c = and_on (eq-eqb _ _ (sym c.state.ensures ∙ c.if-state-eq-CURRENT.true)) (ap (λ n. eqb n 64) c.left.ensures)

pub returns-else-state-eq-CURRENT : goal.returns-else-state-eq-CURRENT
unfolding is_start
returns-else-state-eq-CURRENT c = and_stop _ (ap (λ n. eqb n 1) c.state.ensures) (ne_eqb _ _ c.if-state-eq-CURRENT.false)
