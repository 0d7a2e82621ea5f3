-- `closure::rounds::add_rule` meets its contract. Assumes nothing.
use mathlib.Core.Path.{sym, ◌∙◌}
use Rattle.kernels.proofs.Puts.{put_if_yes, put_if_no}
use Rattle.closure.proofs.rounds.add_rule.Goals as goal

pub returns-then-is_current_rule_of : goal.returns-then-is_current_rule_of
returns-then-is_current_rule_of c =
    put_if_yes _ _ (sym c.is_current_rule_of.ensures ∙ c.if-is_current_rule_of.true) c.put.ensures

pub returns-else-is_current_rule_of : goal.returns-else-is_current_rule_of
returns-else-is_current_rule_of c = put_if_no _ (sym c.is_current_rule_of.ensures ∙ c.if-is_current_rule_of.false)
