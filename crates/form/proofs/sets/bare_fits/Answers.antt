-- `sets::bare_fits` meets its contract: the tests of `bare_fits`, in its order. Assumes nothing.
use native.Mathlib.Omega.{arith}
use Rattle.std.proofs.lemmas.Grind.{common_steps}
use Rattle.laws.specs.Choice.{◌and◌, when}
use Rattle.form.specs.Sets.{bare_fits}
use Rattle.form.proofs.sets.bare_fits.Goals as goal

pub returns-then-mark-ne-FREE : goal.returns-then-mark-ne-FREE
unfolding bare_fits when ◌and◌
returns-then-mark-ne-FREE c = grind (arith, common_steps)

pub returns-else-mark-ne-FREE : goal.returns-else-mark-ne-FREE
unfolding bare_fits when ◌and◌
returns-else-mark-ne-FREE c = grind (arith, common_steps)

pub returns-else-words-s-eq0-2 : goal.returns-else-words-s-eq0-2
unfolding bare_fits when ◌and◌
returns-else-words-s-eq0-2 c = grind (arith, common_steps)
