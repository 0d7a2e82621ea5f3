-- `sets_fit` meets its contract: the masks are those of `sets_fit`. Assumes nothing.
use native.Mathlib.Omega.{arith}
use Rattle.std.proofs.lemmas.Grind.{common_steps}
use Rattle.form.specs.Masks.{named}
use Rattle.form.specs.Formed.{sets_fit}
use Rattle.form.proofs.sets_fit.Goals as goal

pub returns : goal.returns
unfolding named sets_fit
returns c = grind (arith, common_steps)
