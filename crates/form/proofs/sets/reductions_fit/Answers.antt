-- `sets::reductions_fit` meets its contract: the tests of `reductions_fit`, in its order. Assumes nothing.
use native.Mathlib.Omega.{arith}
use Rattle.std.proofs.lemmas.Grind.{common_steps}
use Rattle.laws.specs.Choice.{◌and◌, when}
use Rattle.form.specs.Sets.{reductions_fit}
use Rattle.form.proofs.sets.reductions_fit.Goals as goal

pub returns-then-not-only : goal.returns-then-not-only
unfolding reductions_fit when ◌and◌
returns-then-not-only c = grind (arith, common_steps)

pub returns-else-not-only : goal.returns-else-not-only
unfolding reductions_fit when ◌and◌
returns-else-not-only c = grind (arith, common_steps)
