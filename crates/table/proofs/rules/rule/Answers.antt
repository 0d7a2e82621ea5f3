-- `table::rule` meets its contract: each of the seven places is the one that `rule_in` has there. Assumes nothing.
use borrow.Author.Rules.{rules}
use Rattle.table.specs.Write.{rule_in}
use Rattle.table.proofs.rules.rule.Goals as goal

pub returns : goal.returns
unfolding rule_in
returns c = search rules
