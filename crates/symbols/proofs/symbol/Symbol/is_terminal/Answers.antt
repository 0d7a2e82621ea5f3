-- `Symbol::is_terminal` meets its contract: both limits are tested, in the definition's order. Assumes nothing.
use mathlib.Core.Path.{refl}
use borrow.Author.Tests.{le-leb, lt-leb}
use Rattle.laws.proofs.Choice.{and_on, and_stop}
use Rattle.symbols.specs.Symbol.{terminal}
use Rattle.symbols.proofs.symbol.Symbol.is_terminal.Goals as goal

pub returns-then-self : goal.returns-then-self
unfolding terminal
returns-then-self c = and_on (le-leb _ _ c.if-self.true) refl

pub returns-else-self : goal.returns-else-self
unfolding terminal
returns-else-self c = and_stop _ refl (lt-leb _ _ c.if-self.false)
