-- `masks::put_rule` meets its contract: nothing is put where the state is not 1 to `last`. Assumes nothing.
use native.Mathlib.Omega.{arith}
use Rattle.std.proofs.lemmas.Grind.{common_steps}
use Rattle.laws.specs.Choice.{◌and◌, when}
use Rattle.form.specs.Masks.{put_named}
use Rattle.form.proofs.masks.put_rule.Goals as goal

pub returns-then-contains : goal.returns-then-contains
unfolding put_named when ◌and◌
returns-then-contains c = grind (arith, common_steps)

pub returns-else-contains : goal.returns-else-contains
unfolding put_named when ◌and◌
returns-else-contains c = grind (arith, common_steps)
