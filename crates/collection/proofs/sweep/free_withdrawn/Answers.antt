-- `collection::sweep::free_withdrawn` meets its contract. The invariant: the first r rule numbers are done. Assumes nothing.
use mathlib.Core.Path.{sym, ap, ◌∙◌}
use Rattle.laws.proofs.Loops.{up_to-zero, up_to-more}
use Rattle.collection.specs.Sweep.{free_withdrawn}
use Rattle.collection.proofs.sweep.free_withdrawn.Goals as goal

pub loop-r-init : goal.loop-r-init
loop-r-init c = sym (up_to-zero _ _)

pub loop-r-preserved : goal.loop-r-preserved
loop-r-preserved c = c.free_if_withdrawn.ensures ∙ ap (free_withdrawn _) c.loop-r.invariant ∙ sym (up_to-more _ _ _)
