-- `Held::fill` meets its contract. Assumes nothing.
use Rattle.std.proofs.Common.{arith}
use Rattle.reader.proofs.Reading.{filled}
use Rattle.reader.proofs.input.Held.fill.Goals as goal

pub returns-in_default-clause-filled : goal.returns-in_default-clause-filled
returns-in_default-clause-filled g c = filled _ _ _ _ _ (omega arith) (omega arith) _ c.loop.invariant.0 tt

pub returns-in_default-2-clause-filled : goal.returns-in_default-2-clause-filled
returns-in_default-2-clause-filled g c = filled _ _ _ _ _ (omega arith) (omega arith) _ c.loop.invariant.0 c.read-tried.ensures.bound

pub returns-clause-filled : goal.returns-clause-filled
returns-clause-filled g c = filled _ _ _ _ _ (omega arith) (omega arith) _ c.loop.invariant.0 c.read.ensures.bound
