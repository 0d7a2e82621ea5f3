-- `levels::Level::under` meets its contract. The invariant: the nodes under the first i of the level are on the other list, and the level is as it was. Assumes nothing.
use mathlib.Core.Path.{◌≡◌}
use Prim.Native.Nat.{◌-◌}
use Rattle.levels.proofs.Below.{Going}
use Rattle.levels.proofs.Level.under.Given as goal

abbrev pub invariant-loop-i : goal.invariant-loop-i
invariant-loop-i l = (l.next.side ≡ 1 - l.self.side) × Going l.buf l.links l.nodes l.initial.work l.self.side l.self.count l.i l.work l.next.side l.next.count
