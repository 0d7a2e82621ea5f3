-- `copy` meets its contract. Assumes nothing.
use mathlib.Core.Path.{ap, ◌∙◌}
use Prim.Native.Nat.{◌<◌}
use native.Mathlib.Omega.{arith}
use lib.ListN.{length, get_or, set, length-set}
use Rattle.script.proofs.Telling.{copied_more}
use Rattle.script.proofs.command.copy.Goals as goal

pub loop-i-preserved : goal.loop-i-preserved
loop-i-preserved c = let l : c.loop-i.i < length c.args.ns.now = omega arith in
    let m : c.loop-i.i < length c.args.symbols.now = omega (arith, c.requires.n_in_bounds) in
    (simp length-set c.loop-i.invariant.0, ap (λ t. set t c.loop-i.i (get_or c.args.ns.now c.loop-i.i 0)) c.loop-i.invariant.1 ∙ copied_more _ _ _ l m)
