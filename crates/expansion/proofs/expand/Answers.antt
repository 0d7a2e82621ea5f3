-- `expansion::expand` meets its contract. Assumes nothing.
use Rattle.expansion.proofs.Twice.{expand_now, again-unexpanded, expand-then}
use Rattle.expansion.proofs.expand.Goals as goal

pub returns-then-try_expand : goal.returns-then-try_expand
returns-then-try_expand c = expand_now _ _ _ c.try_expand.ensures c.if-try_expand.true

pub try_expand-requires-2 : goal.try_expand-requires-2
try_expand-requires-2 c = again-unexpanded _ _ _ c.requires c.try_expand.ensures c.if-try_expand.false _ c.collect.ensures

pub returns : goal.returns
returns c = expand-then _ _ _ c.requires c.try_expand.ensures c.if-try_expand.false _ c.collect.ensures c.try_expand-2.ensures
