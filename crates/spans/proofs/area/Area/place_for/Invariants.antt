use Rattle.spans.proofs.Inserted.{Over}
use Rattle.spans.proofs.area.Area.place_for.Given as goal

abbrev pub invariant-loop-e : goal.invariant-loop-e
invariant-loop-e l = Over l.self.numbers.now l.self.count l.key l.e
