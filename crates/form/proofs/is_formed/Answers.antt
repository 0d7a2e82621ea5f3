-- `form::is_formed` meets its contract: its tests are those of `formed`, in that order, once the sizes are in range. Assumes nothing.
use mathlib.Core.Bool.{true}
use mathlib.Core.Path.{◌≡◌}
use native.Mathlib.Omega.{arith}
use Rattle.std.proofs.lemmas.Grind.{common_steps}
use Rattle.laws.specs.Choice.{◌and◌}
use Rattle.laws.proofs.Tests.{passes}
use Rattle.form.specs.Formed.{formed}
use Rattle.form.specs.Rules.{rules_fit}
use Rattle.form.proofs.Formed.{rules-short, tells_whole}
use Rattle.form.proofs.is_formed.Goals as goal

pub sets_fit-requires-clause-short : goal.sets_fit-requires-clause-short
sets_fit-requires-clause-short c =
    let e : rules_fit c.args.rules.now ≡ true = grind (arith, common_steps) in
    rules-short _ (passes e)

pub returns-then-sets_fit : goal.returns-then-sets_fit
unfolding formed ◌and◌
returns-then-sets_fit c =
    tells_whole _ _ c.is_roomy.ensures (λ k. (c.type_inv.words k).fits) (λ e. grind (arith, common_steps)) (λ e. grind (arith, common_steps))

pub returns-else-sets_fit : goal.returns-else-sets_fit
unfolding formed ◌and◌
returns-else-sets_fit c =
    tells_whole _ _ c.is_roomy.ensures (λ k. (c.type_inv.words k).fits) (λ e. grind (arith, common_steps)) (λ e. grind (arith, common_steps))
