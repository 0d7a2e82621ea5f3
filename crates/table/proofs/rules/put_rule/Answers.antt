-- `table::put_rule` meets its contract. The invariant: the first k of the ten are written. Assumes nothing.
use mathlib.Core.Path.{◌≡◌, sym}
use native.Mathlib.Omega.{arith}
use borrow.Author.Rules.{rules}
use Rattle.kernels.proofs.Write.{write_none, write_more, write_end}
use Rattle.table.specs.Write.{put_rule}
use Rattle.table.proofs.rules.put_rule.Goals as goal

pub loop-k-init : goal.loop-k-init
loop-k-init c = (search rules, sym (write_none _ _ _))

pub loop-k-preserved : goal.loop-k-preserved
loop-k-preserved c = (search rules, rw c.number.ensures (write_more _ _ _ _ c.loop-k.invariant.1))

pub returns : goal.returns
unfolding put_rule
returns c = let e : c.loop-k.k ≡ 10 = omega arith in write_end _ _ _ e c.loop-k.invariant.1
