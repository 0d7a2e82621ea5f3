-- `unexpand_all` meets its contract. The invariant: the rows below s are done. Assumes nothing.
use mathlib.Core.Path.{sym, ap, ◌∙◌}
use native.Mathlib.Omega.{arith}
use Rattle.laws.proofs.Loops.{up_to-zero, up_to-more, up_to-end}
use Rattle.changes.specs.Touch.{unexpand_if, unexpand_all}
use Rattle.changes.proofs.touch.unexpand_all.Goals as goal

pub loop-s-init : goal.loop-s-init
loop-s-init c = sym (up_to-zero _ _)

pub loop-s-preserved : goal.loop-s-preserved
loop-s-preserved c = c.unexpand_if.ensures ∙ ap (unexpand_if _ _) c.loop-s.invariant ∙ sym (up_to-more _ _ _)

pub returns : goal.returns
unfolding unexpand_all
returns c = up_to-end _ _ _ (omega arith) c.loop-s.invariant
