-- `sets::are_zero` meets its contract. The invariant: `any` is zero exactly if the first k cells are. Assumes nothing.
use mathlib.Core.Path.{◌≡◌}
use Prim.Native.Nat.{◌+◌}
use lib.Dec.{eqb}
use lib.ListN.{get_or}
use Rattle.laws.specs.Loops.{all_below}
use Rattle.form.proofs.sets.are_zero.Given as goal

abbrev pub invariant-loop-k : goal.invariant-loop-k
invariant-loop-k l = eqb l.any 0 ≡ all_below l.k (λ j. eqb (get_or l.cells (l.at + j) 0) 0)
