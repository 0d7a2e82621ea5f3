-- `sets::fits` meets its contract: the tests of `set_fits`, in its order. Assumes nothing.
use native.Mathlib.Omega.{arith}
use Rattle.std.proofs.lemmas.Grind.{common_steps}
use Rattle.laws.specs.Choice.{◌and◌, when}
use Rattle.form.specs.Sets.{set_fits}
use Rattle.form.proofs.sets.fits.Goals as goal

pub returns-then-mark-gt-ACCEPTING : goal.returns-then-mark-gt-ACCEPTING
unfolding set_fits when ◌and◌
returns-then-mark-gt-ACCEPTING c = grind (arith, common_steps)

pub returns-then-mark-lt-EXPANDED : goal.returns-then-mark-lt-EXPANDED
unfolding set_fits when ◌and◌
returns-then-mark-lt-EXPANDED c = grind (arith, common_steps)

pub returns-else-mark-lt-EXPANDED : goal.returns-else-mark-lt-EXPANDED
unfolding set_fits when ◌and◌
returns-else-mark-lt-EXPANDED c = grind (arith, common_steps)
