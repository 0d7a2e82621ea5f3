-- `Rule::of` meets its contract: each of the seven places is the one that `rule_of` has there. Assumes nothing.
use Rattle.symbols.specs.Rule.{rule_of}
use Rattle.symbols.proofs.rule.Rule.of.Goals as goal

pub returns : goal.returns
unfolding rule_of
returns c = cc
