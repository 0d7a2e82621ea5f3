-- `collection::reach::Reached::scan` meets its contract. The invariant: the targets on the first symbols are marked and queued.
-- Assumes nothing.
use mathlib.Core.Path.{◌≡◌}
use Prim.Native.Nat.{◌+◌}
use Rattle.collection.specs.Reach.{cell_of, Adds}
use Rattle.collection.proofs.reach.Reached.scan.Given as goal

abbrev pub invariant-loop-t : goal.invariant-loop-t
invariant-loop-t l =
    Adds l.t-index (λ k. cell_of l.cells l.s (k + 1)) l.initial.self.marks l.initial.self.queue l.initial.self.n l.self.marks l.self.queue l.self.n × (l.self.taken ≡ l.initial.self.taken)
