-- `table::put_rule` meets its contract. The invariant: the first k of the ten are written. Assumes nothing.
use mathlib.Core.Path.{◌≡◌}
use Prim.Native.Nat.{◌+◌, ◌*◌}
use lib.ListN.{length}
use Rattle.kernels.specs.Write.{write_words}
use Rattle.table.specs.Write.{ten_of}
use Rattle.table.proofs.rules.put_rule.Given as goal

abbrev pub invariant-loop-k : goal.invariant-loop-k
invariant-loop-k l = (length l.rules ≡ length l.initial.rules) × (l.rules ≡ write_words l.initial.rules (2 + l.r * 10) (ten_of l.state l.x) l.k)
