-- `kernels::word::lowest` meets its contract. Assumes nothing.
use native.Mathlib.Omega.{arith}
use lib.Count.{trailing_le}
use Rattle.kernels.proofs.Bit.{trailing_lowest}
use Rattle.kernels.proofs.word.lowest.Goals as goal

pub overflow_cast-result : goal.overflow_cast-result
overflow_cast-result c = omega (arith, trailing_le 64 c.args.w)

pub returns : goal.returns
returns c = trailing_lowest 64 c.args.w c.requires c.ranges.w.fits
