-- `Held::fill` meets its contract. Assumes nothing.
use Rattle.std.proofs.Common.{◌≡◌, take}
use Rattle.reader.proofs.input.Held.fill.Given as goal

abbrev pub invariant-loop : goal.invariant-loop
invariant-loop g l =
    (take l.held l.self.bytes ≡ take l.held l.initial.self.bytes) × (l.self.len ≡ l.initial.self.len)
