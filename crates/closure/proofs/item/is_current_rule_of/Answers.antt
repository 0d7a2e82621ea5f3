-- `closure::item::is_current_rule_of` meets its contract. The two tests are those of the model, in its order. Assumes nothing.
use mathlib.Core.Path.{sym, ap, ◌∙◌}
use borrow.Author.Tests.{eq-eqb, ne_eqb}
use lib.Dec.{eqb}
use Rattle.laws.proofs.Choice.{and_on, and_off}
use Rattle.closure.specs.Item.{current_rule_of}
use Rattle.closure.proofs.Rules.{state_read}
use Rattle.closure.proofs.item.is_current_rule_of.Goals as goal

pub returns-then-rules-r-eq-CURRENT : goal.returns-then-rules-r-eq-CURRENT
unfolding current_rule_of
returns-then-rules-r-eq-CURRENT c =
    let state = state_read c.args.rules.now c.requires.0 c.args.r c.requires.1 in
    and_on (ap (λ x. eqb x 1) (sym state) ∙ eq-eqb _ _ c.if-rules-r-eq-CURRENT.true) (c.eq.ensures ∙ ap (λ x. eqb x c.args.b.0) c.left.ensures)

pub returns-else-rules-r-eq-CURRENT : goal.returns-else-rules-r-eq-CURRENT
unfolding current_rule_of
returns-else-rules-r-eq-CURRENT c =
    let state = state_read c.args.rules.now c.requires.0 c.args.r c.requires.1 in
    let no = ne_eqb _ _ c.if-rules-r-eq-CURRENT.false in
    no ∙ and_off _ (ap (λ x. eqb x 1) (sym state) ∙ no)
