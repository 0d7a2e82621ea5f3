-- `changes::put_rule` meets its contract: the rule is written, then the sets are touched. Assumes nothing.
use Rattle.changes.proofs.PutRule.{put-sized, put-made}
use Rattle.changes.proofs.put_rule.Goals as goal

pub touch-requires-clause-sized : goal.touch-requires-clause-sized
touch-requires-clause-sized c = put-sized _ _ _ _ _ _ c.requires c.put_rule.ensures

pub returns : goal.returns
returns c =
    put-made _ _ _ _ _ _ c.requires c.put_rule.ensures c.touch.ensures
