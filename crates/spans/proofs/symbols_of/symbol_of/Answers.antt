use Rattle.spans.proofs.Reached.{symbol-first, symbol-none}
use Rattle.spans.proofs.symbols_of.symbol_of.Goals as goal

pub returns-in-Some : goal.returns-in-Some
returns-in-Some c =
    symbol-first c.requires.0 c.requires.1 c.in-Some.is c.next-found.ensures
    c.before_dot.ensures

pub returns-in-None : goal.returns-in-None
returns-in-None c =
    symbol-none c.requires.0 c.requires.1 c.in-None.is c.next-found.ensures
