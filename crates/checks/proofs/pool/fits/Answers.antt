-- `checks::pool::fits` tells `Fits`: the limits one by one, then the lengths. Assumes nothing.
use native.Mathlib.Omega.{arith}
use borrow.Author.Rules.{rules}
use borrow.Author.Tests.{tests}
use Rattle.std.proofs.lemmas.Grind.{common_steps}
use Rattle.checks.proofs.Fitting.{tells_fits}
use Rattle.checks.proofs.pool.fits.Goals as goal

pub returns-then-sets-cells : goal.returns-then-sets-cells
returns-then-sets-cells c = tells_fits _ _ _ _ (search (rules, tests))

pub returns-else-sets-cells : goal.returns-else-sets-cells
returns-else-sets-cells c = tells_fits _ _ _ _ (grind (arith, common_steps))
