-- `collection::sweep::free_if_withdrawn` meets its contract. Assumes nothing.
use Rattle.collection.proofs.Turn.{rule-freed, rule_stays}
use Rattle.collection.proofs.sweep.free_if_withdrawn.Goals as goal

pub returns-then-rules-r-eq-WITHDRAWN : goal.returns-then-rules-r-eq-WITHDRAWN
returns-then-rules-r-eq-WITHDRAWN c = rule-freed _ _ c.if-rules-r-eq-WITHDRAWN.true c.clear.ensures

pub returns-else-rules-r-eq-WITHDRAWN : goal.returns-else-rules-r-eq-WITHDRAWN
returns-else-rules-r-eq-WITHDRAWN c = rule_stays _ _ c.if-rules-r-eq-WITHDRAWN.false
