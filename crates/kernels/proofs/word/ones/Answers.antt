-- `kernels::word::ones` meets its contract. Assumes nothing.
use native.Mathlib.Omega.{arith}
use lib.Count.{ones-le}
use Rattle.kernels.proofs.Bit.{ones_many}
use Rattle.kernels.proofs.word.ones.Goals as goal

pub overflow_cast-result : goal.overflow_cast-result
overflow_cast-result c = omega (arith, ones-le 64 c.args.w c.ranges.w.fits)

pub returns : goal.returns
returns c = ones_many 64 c.args.w c.ranges.w.fits
