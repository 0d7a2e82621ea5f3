-- `collection::sweep::free_unmarked` meets its contract. The invariant: the first s sets are done. Assumes nothing.
use mathlib.Core.Path.{sym, ap, ◌∙◌}
use Rattle.laws.proofs.Loops.{up_to-zero, up_to-more}
use Rattle.collection.specs.Sweep.{free_unmarked}
use Rattle.collection.proofs.sweep.free_unmarked.Goals as goal

pub loop-s-init : goal.loop-s-init
loop-s-init c = sym (up_to-zero _ _)

pub loop-s-preserved : goal.loop-s-preserved
loop-s-preserved c = c.free_unless_marked.ensures ∙ ap (free_unmarked _ _) c.loop-s.invariant ∙ sym (up_to-more _ _ _)
