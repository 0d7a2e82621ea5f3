-- `rules::all_differ` meets its contract: `all` over the rules. Assumes nothing.
use mathlib.Core.Path.{refl}
use borrow.Author.Rules.{rules}
use Rattle.form.specs.Rules.{rule_alone, rules_differ}
use Rattle.laws.proofs.Ranges.{below_from_all}
use Rattle.form.proofs.rules.all_differ.Goals as goal

pub returns : goal.returns
unfolding rules_differ
returns c = below_from_all (rule_alone c.args.rules.now) c.all.ensures.ran refl c.rules_in.ensures (λ x t q k. search rules)
