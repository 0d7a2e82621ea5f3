-- `expansion::grow::mark` meets its contract. Assumes nothing.
use mathlib.Core.Path.{refl}
use Rattle.laws.proofs.Choice.{when_yes, when_no}
use Rattle.expansion.proofs.grow.mark.Goals as goal

pub returns-then-accepts : goal.returns-then-accepts
returns-then-accepts c = when_yes _ c.if-accepts.true refl

pub returns-else-accepts : goal.returns-else-accepts
returns-else-accepts c = when_no _ c.if-accepts.false refl
