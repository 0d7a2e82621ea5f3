-- `start_fits` meets its contract: the mark, then the kernel against the mask of the current START rules. Assumes nothing.
use native.Mathlib.Omega.{arith}
use Rattle.std.proofs.lemmas.Grind.{common_steps}
use Rattle.laws.specs.Choice.{◌and◌}
use Rattle.form.specs.Formed.{start_fits}
use Rattle.form.specs.Masks.{starts}
use Rattle.form.proofs.start_fits.Goals as goal

pub returns-then-mark-eq-FREE : goal.returns-then-mark-eq-FREE
unfolding start_fits ◌and◌
returns-then-mark-eq-FREE c = grind (arith, common_steps)

pub returns : goal.returns
unfolding start_fits starts ◌and◌
returns c = grind (arith, common_steps)
