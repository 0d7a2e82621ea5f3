use Rattle.spans.specs.Steps.{Passed}
use Rattle.spans.proofs.area.Area.first_from.Given as goal

abbrev pub invariant-loop-e : goal.invariant-loop-e
invariant-loop-e l = Passed l.self.numbers.now l.self.count l.j l.e
