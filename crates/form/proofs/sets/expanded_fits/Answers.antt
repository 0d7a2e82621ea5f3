-- `sets::expanded_fits` meets its contract: the tests of `expanded_fits`, in its order. Assumes nothing.
use native.Mathlib.Omega.{arith}
use Rattle.std.proofs.lemmas.Grind.{common_steps}
use Rattle.laws.specs.Choice.{◌and◌, when}
use Rattle.form.specs.Sets.{expanded_fits}
use Rattle.form.proofs.sets.expanded_fits.Goals as goal

pub returns-then-reductions_fit : goal.returns-then-reductions_fit
unfolding expanded_fits when ◌and◌
returns-then-reductions_fit c = grind (arith, common_steps)

pub returns-else-reductions_fit : goal.returns-else-reductions_fit
unfolding expanded_fits when ◌and◌
returns-else-reductions_fit c = grind (arith, common_steps)
