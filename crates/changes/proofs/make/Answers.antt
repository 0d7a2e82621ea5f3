-- `changes::make` meets its contract: zeros, then the two sizes and the mark. Assumes nothing.
use native.Mathlib.Omega.{arith}
use Rattle.theory.proofs.FormNew.{pools_in_range_lem}
use Rattle.changes.proofs.Made.{new-made}
use Rattle.changes.proofs.make.Goals as goal

pub overflow_cast-rules : goal.overflow_cast-rules
overflow_cast-rules c = omega (arith, (pools_in_range_lem _ _).0 c.requires.in_range)

pub overflow_cast-rules-2 : goal.overflow_cast-rules-2
overflow_cast-rules-2 c = omega (arith, (pools_in_range_lem _ _).0 c.requires.in_range)

pub bounds-cells-0 : goal.bounds-cells-0
bounds-cells-0 c = omega (arith, (pools_in_range_lem _ _).0 c.requires.in_range)

pub returns : goal.returns
returns c =
    new-made _ _ _ _ _ _ _ _ c.requires c.clear.ensures c.clear-2.ensures c.clear-3.ensures
