-- `kernels::word::with` meets its contract. Assumes nothing.
use Rattle.kernels.proofs.Bit.{or_shl}
use Rattle.kernels.proofs.word.with.Goals as goal

pub returns : goal.returns
returns c = or_shl 64 c.args.w c.args.b c.requires
