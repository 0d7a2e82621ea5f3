-- `check_rule` meets its contract: each way out is one of 01's cases, by the tests that led there. Assumes nothing.
use Rattle.std.proofs.Common.{sym, ◌∙◌}
use Rattle.symbols.proofs.Checks.{bad_left, long-right, bad_symbol, is-rule}
use Rattle.symbols.proofs.rule_check.check_rule.Goals as goal

pub returns-then-not-is_nonterminal : goal.returns-then-not-is_nonterminal
returns-then-not-is_nonterminal c = bad_left (sym c.is_nonterminal.ensures ∙ c.if-not-is_nonterminal.true)

pub returns-then-right-gt-PLACES : goal.returns-then-right-gt-PLACES
returns-then-right-gt-PLACES c = long-right (sym c.is_nonterminal.ensures ∙ c.if-not-is_nonterminal.false) c.if-right-gt-PLACES.true

pub returns-then-not-all_may_stand_right : goal.returns-then-not-all_may_stand_right
returns-then-not-all_may_stand_right c =
    bad_symbol (sym c.is_nonterminal.ensures ∙ c.if-not-is_nonterminal.false)
    c.if-right-gt-PLACES.false (sym c.all_may_stand_right.ensures ∙ c.if-not-all_may_stand_right.true)

pub returns : goal.returns
returns c =
    is-rule (sym c.is_nonterminal.ensures ∙ c.if-not-is_nonterminal.false)
    c.if-right-gt-PLACES.false (sym c.all_may_stand_right.ensures ∙ c.if-not-all_may_stand_right.false)
    c.of.ensures
