-- `kernels::equal` meets its contract: the first k words agree. Assumes nothing.
use Rattle.std.proofs.Common.{refl, ap, not, arith}
use borrow.Author.Tests.{eq-eqb, ne_eqb}
use Rattle.laws.proofs.Loops.{all_none, all_more, all_end, all_fails}
use Rattle.kernels.specs.Kernel.{same}
use Rattle.kernels.proofs.equal.Goals as goal

pub loop-k-init : goal.loop-k-init
loop-k-init c = all_none _

pub returns-then-a-i : goal.returns-then-a-i
unfolding same
returns-then-a-i c = all_fails _ {i = c.loop-k.k} (omega arith) refl (ap not (ne_eqb _ _ c.if-a-i.true))

pub loop-k-preserved : goal.loop-k-preserved
loop-k-preserved c = all_more _ _ c.loop-k.invariant (eq-eqb _ _ c.if-a-i.false)

pub returns : goal.returns
unfolding same
returns c = all_end _ (omega arith) c.loop-k.invariant
