-- `sets::differs` meets its contract: the tests of `kernel_differs`, in its order. Assumes nothing.
use native.Mathlib.Omega.{arith}
use Rattle.std.proofs.lemmas.Grind.{common_steps}
use Rattle.laws.specs.Choice.{◌and◌, when}
use Rattle.form.specs.Sets.{kernel_differs}
use Rattle.form.proofs.sets.differs.Goals as goal

pub returns-then-not-equal : goal.returns-then-not-equal
unfolding kernel_differs when ◌and◌
returns-then-not-equal c = grind (arith, common_steps)

pub returns-else-not-equal : goal.returns-else-not-equal
unfolding kernel_differs when ◌and◌
returns-else-not-equal c = grind (arith, common_steps)
