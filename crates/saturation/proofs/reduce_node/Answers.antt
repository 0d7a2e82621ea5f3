-- `saturation::reduce_node` meets its contract. Assumes nothing.
use mathlib.Core.Path.{refl}
use native.Mathlib.Omega.{arith}
use Rattle.kernels.proofs.KernelWalk.{over_still}
use Rattle.links.proofs.Lent.{same_trans}
use Rattle.saturation.proofs.Reductions.{first_rule, no_rule}
use Rattle.saturation.proofs.Works.{node-next, node_end}
use Rattle.saturation.proofs.reduce_node.Goals as goal

pub reduce-requires-clause-n_lt_nodes : goal.reduce-requires-clause-n_lt_nodes
reduce-requires-clause-n_lt_nodes c =
    let (same, inside, over, works) = c.loop-r.invariant in
    let first = first_rule _ over c.in-Some.ensures.steps in
    (omega (arith, works.grown.nodes), (rw same.here c.requires.n_lt_nodes.1, (first.most, rw (works.grown.set_same c.args.n c.requires.n_lt_nodes.0) first.hit)))

pub loop-r-preserved : goal.loop-r-preserved
loop-r-preserved c =
    let (same, inside, over, works) = c.loop-r.invariant in
    let step = c.in-Some.ensures.steps in
    let first = first_rule _ over step in
    let on = step.on c.in-Some.r refl in (
      same_trans same c.reduce.ensures.same,
      omega (arith, first.most, on),
      over_still over step,
      rw on (node-next _ _ refl _ _ c.requires.n_lt_nodes.0 works (rw same.here at c.reduce.ensures.works) first),
    )

pub returns-clause-works : goal.returns-clause-works
returns-clause-works c =
    let (same, inside, over, works) = c.loop-r.invariant in
    node_end _ _ refl _ c.requires.n_lt_nodes.0 (no_rule _ over c.in-None.ensures.steps) works
