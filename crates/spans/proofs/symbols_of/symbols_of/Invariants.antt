use Rattle.spans.specs.Steps.{Symbols}
use Rattle.spans.proofs.symbols_of.symbols_of.Given as goal

abbrev pub invariant-loop-s : goal.invariant-loop-s
invariant-loop-s l = Symbols l.rules l.words l.s l.symbols
