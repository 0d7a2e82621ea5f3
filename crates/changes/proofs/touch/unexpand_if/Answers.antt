-- `unexpand_if` meets its contract. Assumes nothing.
use mathlib.Core.Path.{sym, ◌∙◌}
use Rattle.changes.proofs.Ends.{if_leads, if_not}
use Rattle.changes.proofs.touch.unexpand_if.Goals as goal

pub returns-then-target-ne0 : goal.returns-then-target-ne0
returns-then-target-ne0 c =
    if_leads _ _ _ (λ z. c.if-target-ne0.true (c.target.ensures ∙ z)) c.unexpand.ensures

pub returns-else-target-ne0 : goal.returns-else-target-ne0
returns-else-target-ne0 c = if_not _ _ _ (sym c.target.ensures ∙ c.if-target-ne0.false)
