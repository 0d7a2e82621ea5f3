-- `sets::target_fits` meets its contract: the tests of `target_fits`, in its order. Assumes nothing.
use native.Mathlib.Omega.{arith}
use Rattle.std.proofs.lemmas.Grind.{common_steps}
use Rattle.laws.specs.Choice.{◌and◌, when}
use Rattle.form.specs.Sets.{target_fits}
use Rattle.form.proofs.sets.target_fits.Goals as goal

pub returns-then-t-eq0 : goal.returns-then-t-eq0
unfolding target_fits when ◌and◌
returns-then-t-eq0 c = grind (arith, common_steps)

pub returns-then-not-only : goal.returns-then-not-only
unfolding target_fits when ◌and◌
returns-then-not-only c = grind (arith, common_steps)

pub returns-else-not-only : goal.returns-else-not-only
unfolding target_fits when ◌and◌
returns-else-not-only c = grind (arith, common_steps)

pub returns-else-mark-ne-FREE : goal.returns-else-mark-ne-FREE
unfolding target_fits when ◌and◌
returns-else-mark-ne-FREE c = grind (arith, common_steps)
