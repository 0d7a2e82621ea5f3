-- `levels::levels` meets its contract. The invariant: the list has the ends of the paths of so many links. Assumes nothing.
use Prim.Native.Nat.{◌≤◌}
use Rattle.levels.specs.Reached.{Reached}
use Rattle.levels.proofs.levels.Given as goal

abbrev pub invariant-loop : goal.invariant-loop
invariant-loop l = (l.level.side ≤ 1) × Reached l.buf l.links l.nodes l.n l.counter l.work l.level.side l.level.count
