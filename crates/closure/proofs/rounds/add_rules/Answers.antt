-- `closure::rounds::add_rules` meets its contract. The invariant: the rules below r are added. Assumes nothing.
use mathlib.Core.Path.{sym, ap, ◌∙◌}
use Rattle.laws.proofs.Loops.{up_to-zero, up_to-more}
use Rattle.closure.specs.UnderWay.{put_rule}
use Rattle.closure.proofs.rounds.add_rules.Goals as goal

pub loop-r-init : goal.loop-r-init
loop-r-init c = sym (up_to-zero _ _)

pub loop-r-preserved : goal.loop-r-preserved
loop-r-preserved c = c.add_rule.ensures ∙ ap (put_rule _ _ _) c.loop-r.invariant ∙ sym (up_to-more _ _ _)
