-- `kernels::put` meets its contract. Assumes nothing.
use mathlib.Core.Path.{ap}
use Prim.Native.Nat.{◌+◌, ◌/◌}
use lib.ListN.{set}
use Rattle.kernels.specs.Kernel.{put}
use Rattle.kernels.proofs.put.Goals as goal

pub returns : goal.returns
unfolding put
returns c =
    let a = c.args in
    ap (set a.words.now (a.at + a.item / 64)) c.with.ensures
