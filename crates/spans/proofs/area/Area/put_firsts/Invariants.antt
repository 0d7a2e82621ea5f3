use mathlib.Core.Path.{◌≡◌}
use Rattle.spans.specs.Steps.{Passed, Begun}
use Rattle.spans.proofs.area.Area.put_firsts.Given as goal

abbrev pub invariant-loop-j : goal.invariant-loop-j
invariant-loop-j l = record {
  begun : Begun l.initial.self.numbers.now l.self.numbers.now l.self.count l.j;
  passed : Passed l.initial.self.numbers.now l.self.count l.j l.e;
  count : l.self.count ≡ l.initial.self.count;
  same : l.self.numbers.ghost_name ≡ l.initial.self.numbers.ghost_name;
}
