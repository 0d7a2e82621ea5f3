-- `rules::all_fit` meets its contract: `all` over the rules. Assumes nothing.
use mathlib.Core.Path.{refl}
use borrow.Author.Rules.{rules}
use Rattle.form.specs.Rules.{rule_fits, rules_fit}
use Rattle.laws.proofs.Ranges.{below_from_all}
use Rattle.form.proofs.rules.all_fit.Goals as goal

pub returns : goal.returns
unfolding rules_fit
returns c = below_from_all (rule_fits c.args.rules.now) c.all.ensures.ran refl c.rules_in.ensures (λ x t q k. search rules)
