-- `expansion::grow::grow` meets its contract. Assumes nothing.
use native.Mathlib.Omega.{arith}
use Rattle.expansion.proofs.Closed.{closed-inside}
use Rattle.table.proofs.Formed.{formed-rules}
use Rattle.expansion.proofs.Filled.{grow_leads, grow-end}
use Rattle.expansion.proofs.grow.grow.Goals as goal

pub lead-row-requires : goal.lead-row-requires
lead-row-requires c = grow_leads _ _ _ _ c.requires

pub completed_items-done-requires : goal.completed_items-done-requires
completed_items-done-requires c = (formed-rules c.requires.closed.is.formed, c.requires.closed.held.within)

pub fill-requires : goal.fill-requires
fill-requires c = let l = closed-inside _ _ c.requires.closed.is in (omega (arith, c.requires.closed.is.formed.laid.sized.few_sets), omega (arith, c.lead-row.ensures.sets.laid.cells), omega (arith, c.lead-row.ensures.sets.laid.words))

pub returns : goal.returns
returns c = grow-end _ _ _ _ c.requires c.lead-row.ensures c.completed_items-done.ensures c.mark.ensures c.fill.ensures (λ i. (c.type_inv.words i).fits)
