-- `find` meets its contract: std's `find` over the numbers. Assumes nothing.
use mathlib.Core.Path.{refl}
use native.Mathlib.Omega.{arith}
use Rattle.std.proofs.lemmas.Grind.{common_steps}
use Rattle.checks.specs.Find.{is_at}
use Rattle.checks.proofs.Ranges.{lowest_from_find}
use Rattle.checks.proofs.find.find.Goals as goal

pub returns : goal.returns
returns c =
    lowest_from_find (is_at c.args.rules.now c.args.state c.args.x) _ _ c.find.ensures.ran refl c.rules_in.ensures (λ x t q k. grind (arith, common_steps))
