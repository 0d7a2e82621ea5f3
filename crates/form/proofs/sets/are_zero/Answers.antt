-- `sets::are_zero` meets its contract. The invariant: `any` is zero exactly if the first k cells are. Assumes nothing.
use mathlib.Core.Path.{sym}
use Prim.Native.Nat.{◌+◌}
use native.Mathlib.Omega.{arith}
use lib.ListN.{get_or}
use Rattle.std.proofs.lemmas.Grind.{common_steps}
use Rattle.laws.proofs.Loops.{all_none}
use Rattle.form.specs.Sets.{zeros}
use Rattle.form.proofs.Turns.{join_turn}
use Rattle.form.proofs.sets.are_zero.Goals as goal

pub loop-k-init : goal.loop-k-init
loop-k-init c = sym (all_none _)

pub loop-k-preserved : goal.loop-k-preserved
loop-k-preserved c = join_turn (λ j. get_or c.args.cells.now (c.args.at + j) 0) c.loop-k.any c.loop-k.k c.loop-k.invariant

pub returns : goal.returns
unfolding zeros
returns c = grind (arith, common_steps)
