-- `closure::rounds::round` meets its contract. The invariant: the closure has grown, and the non-terminals after the items below
-- `from` are met. Assumes nothing.
use native.Mathlib.Nat.{not-suc-le-zero}
use native.Mathlib.Omega.{arith}
use borrow.Author.Rules.{rules}
use Rattle.kernels.proofs.NextBit.{next-at}
use Rattle.closure.proofs.UnderWay.{grew_none, grew-more, met_turn}
use Rattle.closure.proofs.rounds.round.Goals as goal

pub loop-item-init : goal.loop-item-init
loop-item-init c = (search rules, grew_none c.requires.1, λ i l. absurd (not-suc-le-zero l))

pub loop-item-preserved : goal.loop-item-preserved
loop-item-preserved c =
    let least = next-at c.loop-item.closure 0 {n = 16} {from = c.loop-item.from} _ c.next.ensures c.in-Some.is in
    (omega (arith, least.inside), grew-more c.loop-item.invariant.1 c.meet.ensures.grew, met_turn c.loop-item.invariant.1 c.loop-item.invariant.2 least c.meet.ensures.grew c.meet.ensures.met)
