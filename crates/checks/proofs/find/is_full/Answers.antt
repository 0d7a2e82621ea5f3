-- `is_full` meets its contract: `all` over the numbers. Assumes nothing.
use mathlib.Core.Path.{refl}
use native.Mathlib.Omega.{arith}
use Rattle.std.proofs.lemmas.Grind.{common_steps}
use Rattle.checks.specs.Find.{has_state}
use Rattle.laws.proofs.Ranges.{below_from_all}
use Rattle.checks.proofs.find.is_full.Goals as goal

pub returns : goal.returns
unfolding has_state
returns c = below_from_all (has_state c.args.rules.now 1) c.all.ensures.ran refl c.rules_in.ensures (λ x t q k. grind (arith, common_steps))
