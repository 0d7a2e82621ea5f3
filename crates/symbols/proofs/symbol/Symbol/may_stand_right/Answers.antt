-- `Symbol::may_stand_right` meets its contract: the definition's tests, in its order. Assumes nothing.
use mathlib.Core.Path.{sym, ap, ◌∙◌}
use mathlib.Core.Bool.{not}
use Rattle.laws.proofs.Choice.{and_on, and_stop, or_stop, or_on}
use Rattle.symbols.specs.Symbol.{on_right}
use Rattle.symbols.proofs.symbol.Symbol.may_stand_right.Goals as goal

pub returns-then-is_terminal : goal.returns-then-is_terminal
unfolding on_right
returns-then-is_terminal c = or_stop _ c.is_terminal.ensures c.if-is_terminal.true

pub returns-then-is_nonterminal : goal.returns-then-is_nonterminal
unfolding on_right
returns-then-is_nonterminal c =
    or_on (sym c.is_terminal.ensures ∙ c.if-is_terminal.false)
    (and_on (sym c.is_nonterminal.ensures ∙ c.if-is_nonterminal.true) (ap not c.is_start.ensures))

pub returns-else-is_nonterminal : goal.returns-else-is_nonterminal
unfolding on_right
returns-else-is_nonterminal c =
    or_on (sym c.is_terminal.ensures ∙ c.if-is_terminal.false)
    (and_stop _ c.is_nonterminal.ensures c.if-is_nonterminal.false)
