-- `kernels::is_empty` meets its contract: the first k words are zero. Assumes nothing.
use Rattle.std.proofs.Common.{refl, ap, not, arith}
use borrow.Author.Tests.{eq-eqb, ne_eqb}
use Rattle.laws.proofs.Loops.{all_none, all_more, all_end, all_fails}
use Rattle.kernels.specs.Kernel.{empty}
use Rattle.kernels.proofs.is_empty.Goals as goal

pub loop-k-init : goal.loop-k-init
loop-k-init c = all_none _

pub returns-then-words-at-ne0 : goal.returns-then-words-at-ne0
unfolding empty
returns-then-words-at-ne0 c = all_fails _ {i = c.loop-k.k} (omega arith) refl (ap not (ne_eqb _ _ c.if-words-at-ne0.true))

pub loop-k-preserved : goal.loop-k-preserved
loop-k-preserved c = all_more _ _ c.loop-k.invariant (eq-eqb _ _ c.if-words-at-ne0.false)

pub returns : goal.returns
unfolding empty
returns c = all_end _ (omega arith) c.loop-k.invariant
