-- `lowest_free` meets its contract: std's `find` over the numbers. Assumes nothing.
use mathlib.Core.Path.{refl}
use native.Mathlib.Omega.{arith}
use Rattle.std.proofs.lemmas.Grind.{common_steps}
use Rattle.checks.specs.Find.{has_state}
use Rattle.checks.proofs.Ranges.{lowest_from_find}
use Rattle.checks.proofs.find.lowest_free.Goals as goal

pub returns : goal.returns
unfolding has_state
returns c =
    lowest_from_find (has_state c.args.rules.now 0) _ _ c.find.ensures.ran refl c.rules_in.ensures (λ x t q k. grind (arith, common_steps))
