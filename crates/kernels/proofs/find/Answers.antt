-- `kernels::find` meets its contract: the answer is that from set s on. Assumes nothing.
use Rattle.std.proofs.Common.{sym, ◌∙◌, arith}
use Rattle.laws.proofs.Loops.{first-at, first-here, first_on, first-end}
use Rattle.kernels.specs.Kernel.{find}
use Rattle.kernels.proofs.find.Goals as goal

pub loop-s-init : goal.loop-s-init
unfolding find
loop-s-init c = first-at _ _ _ 1

pub returns-then-equal : goal.returns-then-equal
returns-then-equal c = first-here _ _ _ c.loop-s.invariant (omega arith) (sym c.equal.ensures ∙ c.if-equal.true)

pub loop-s-preserved : goal.loop-s-preserved
loop-s-preserved c = first_on _ _ _ c.loop-s.invariant (omega arith) (sym c.equal.ensures ∙ c.if-equal.false)

pub returns : goal.returns
returns c = first-end _ _ _ c.loop-s.invariant (omega arith)
