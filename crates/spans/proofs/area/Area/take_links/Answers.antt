use mathlib.Core.Path.{refl, ◌∙◌}
use native.Mathlib.Omega.{arith}
use Rattle.links.proofs.Listed.{count}
use Rattle.spans.proofs.Taken.{none_taken, link_taken}
use Rattle.spans.proofs.area.Area.take_links.Goals as goal

pub loop-k-init : goal.loop-k-init
loop-k-init c = record { taken = none_taken _ _ _; long = refl; same = refl }

pub take_link-requires-clause-ascending : goal.take_link-requires-clause-ascending
take_link-requires-clause-ascending c =
    (c.loop-k.invariant.taken.ascending, omega (arith, c.loop-k.invariant.taken.few, count c.args.links.now c.loop-k.k))

pub loop-k-preserved : goal.loop-k-preserved
loop-k-preserved c = record {
  taken = link_taken c.args.links.now _ c.loop-k.invariant.taken c.take_link.ensures.takes;
  long = c.take_link.ensures.long ∙ c.loop-k.invariant.long;
  same = c.take_link.ensures.same ∙ c.loop-k.invariant.same;
}
