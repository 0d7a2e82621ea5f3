-- `is_here` meets its contract. Assumes nothing.
use mathlib.Core.Logic.{⊎_elim}
use mathlib.Core.Path.{◌∙◌}
use native.Mathlib.Omega.{arith}
use borrow.Author.Tests.{lt-leb}
use Rattle.desk.proofs.Made.{too_many-sets, too_many-rules, by-links}
use Rattle.desk.proofs.calls.is_here.Goals as goal
use Rattle.desk.proofs.calls.is_here.Goals.{then-sets-le-MOST_SETS, else-sets-le-MOST_SETS}

pub returns-then-places-le-MOST_RULES : goal.returns-then-places-le-MOST_RULES
returns-then-places-le-MOST_RULES c = let fits = c.if-places-le-MOST_RULES.true in by-links _ fits.0 fits.1

pub returns-else-places-le-MOST_RULES : goal.returns-else-places-le-MOST_RULES
returns-else-places-le-MOST_RULES c = elim c.if-sets-le-MOST_SETS.branch [
  | then-sets-le-MOST_SETS w ↦
      let many = ⊎_elim (λ p. p.1) (λ h. absurd (omega (arith, h, w.if-sets-le-MOST_SETS.true))) c.if-places-le-MOST_RULES.either in
      w.t-5-is ∙ lt-leb _ 128 many ∙ too_many-rules _ w.if-sets-le-MOST_SETS.true many
  | else-sets-le-MOST_SETS w ↦ let many = w.if-sets-le-MOST_SETS.false in w.t-5-is ∙ lt-leb _ 128 many ∙ too_many-sets _ _ many
]
