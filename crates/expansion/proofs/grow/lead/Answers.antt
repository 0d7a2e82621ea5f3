-- `expansion::grow::lead` meets its contract. Assumes nothing.
use Rattle.expansion.proofs.Lead.{lead_start, lead-aims, lead-turn, lead-end}
use borrow.Author.Rules.{rules}
use Rattle.expansion.proofs.grow.lead.Goals as goal

pub loop-x-init : goal.loop-x-init
loop-x-init c =
    (rw c.into_iter-x-iterator.ensures.into_iter_gives (lead_start _ _ _ _ c.requires c.of-x-items.ensures.over c.of-x-items.ensures.start), search rules, search rules)

pub lead_on-requires : goal.lead_on-requires
lead_on-requires c = lead-aims _ _ _ _ c.requires c.loop-x.invariant.0 c.in-Some.ensures.steps

pub loop-x-preserved : goal.loop-x-preserved
loop-x-preserved c = (lead-turn _ _ _ _ c.requires c.loop-x.invariant.0 c.in-Some.ensures.steps c.lead_on.ensures, search rules, search rules)

pub returns : goal.returns
returns c = lead-end _ _ _ _ c.requires c.loop-x.invariant.0 c.in-None.ensures.steps
