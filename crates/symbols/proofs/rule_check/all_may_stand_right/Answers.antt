-- `all_may_stand_right` meets its contract: the test over the right side. Assumes nothing.
use Rattle.std.proofs.Common.{◌∙◌, rules, tests}
use Rattle.std.proofs.lemmas.Iterator.{YieldsList-from_slice}
use Rattle.std.proofs.lemmas.Iterator.Search.{all_from_yields_List}
use Rattle.laws.proofs.Runs.{all-list}
use Rattle.symbols.specs.Symbol.{on_right, all_on_right}
use Rattle.symbols.proofs.rule_check.all_may_stand_right.Goals as goal

pub returns : goal.returns
unfolding all_on_right
returns c = all_from_yields_List on_right _ _ _ c.all.ensures.ran (YieldsList-from_slice c.args.right.now cc) (λ x b q k. search (rules, tests)) ∙ all-list on_right c.args.right.now 0
