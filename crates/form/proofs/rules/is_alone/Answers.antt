-- `rules::is_alone` meets its contract: a free rule, or `all` over those before it. Assumes nothing.
use mathlib.Core.Path.{refl}
use native.Mathlib.Omega.{arith}
use borrow.Author.Tests.{ne_eqb}
use Rattle.std.proofs.lemmas.Grind.{common_steps}
use Rattle.laws.specs.Choice.{when}
use Rattle.laws.proofs.Choice.{when_no}
use Rattle.symbols.proofs.Rules.{equal_is_same}
use Rattle.table.specs.Write.{rule_in}
use Rattle.table.proofs.RuleNumbers.{in_seven}
use Rattle.form.specs.Rules.{differs, rule_alone}
use Rattle.laws.proofs.Ranges.{below_from_all}
use Rattle.form.proofs.rules.is_alone.Goals as goal

pub returns-then-state-eq-FREE : goal.returns-then-state-eq-FREE
unfolding rule_alone when
returns-then-state-eq-FREE c = grind (arith, common_steps)

pub returns : goal.returns
unfolding rule_alone differs
returns c =
    when_no _ (ne_eqb _ _ (λ z. omega arith))
    (below_from_all (differs c.args.rules.now c.args.r) c.all.ensures.ran refl refl (λ x t q k. grind (arith, common_steps, equal_is_same (rule_in c.args.rules.now x) (rule_in c.args.rules.now c.args.r) (in_seven _ _) (in_seven _ _))))
