use mathlib.Core.Path.{◌≡◌}
use lib.ListN.{length}
use Rattle.links.specs.Records.{links_in}
use Rattle.spans.specs.Steps.{Taken}
use Rattle.spans.proofs.area.Area.take_links.Given as goal

abbrev pub invariant-loop-k : goal.invariant-loop-k
invariant-loop-k l = record {
  taken : Taken l.symbols (links_in l.links l.k) l.self.numbers.now l.self.count;
  long : length l.self.numbers.now ≡ length l.initial.self.numbers.now;
  same : l.self.numbers.ghost_name ≡ l.initial.self.numbers.ghost_name;
}
