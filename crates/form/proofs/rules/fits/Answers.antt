-- `rules::fits` meets its contract: the state decides which test is asked. Assumes nothing.
use mathlib.Core.Path.{sym, ap, ◌∙◌}
use mathlib.Core.List.{[]}
use native.Mathlib.Omega.{arith}
use lib.ListN.{length}
use borrow.Author.Tests.{eq-eqb, ne_eqb, le-leb, lt-leb}
use Rattle.laws.proofs.Choice.{when_yes, when_no, and_on, and_off}
use Rattle.symbols.specs.Rule.{well_formed, same_rule, rule_of}
use Rattle.symbols.specs.Check.{no_rule}
use Rattle.symbols.proofs.Rules.{equal_is_same, seven_of}
use Rattle.table.proofs.RuleNumbers.{in_seven}
use Rattle.form.specs.Rules.{rule_fits}
use Rattle.form.proofs.rules.fits.Goals as goal

pub returns-in-0 : goal.returns-in-0
unfolding rule_fits rule_of
returns-in-0 c =
    when_yes _ (eq-eqb _ _ (sym c.state.ensures ∙ c.in-0.is))
    (c.eq.ensures ∙ equal_is_same c.rule.result no_rule (ap (λ x. length x.right) c.rule.ensures ∙ in_seven _ _) (seven_of 0 []) ∙ ap (λ x. same_rule x _) c.rule.ensures)

pub returns-in-1 : goal.returns-in-1
unfolding rule_fits
returns-in-1 c =
    when_no _ (ne_eqb _ _ (λ z. omega arith)) (and_on (le-leb _ _ (omega arith)) (c.is_well_formed.ensures ∙ ap well_formed c.rule-in-1.ensures))

pub returns-in_default : goal.returns-in_default
unfolding rule_fits
returns-in_default c = when_no _ (ne_eqb _ _ (λ z. omega arith)) (and_off _ (lt-leb _ _ (omega arith)))
