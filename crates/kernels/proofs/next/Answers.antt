-- `kernels::next` meets its contract: there is no bit from `from` up to word i. Assumes nothing.
use Rattle.std.proofs.Common.{arith, rules}
use Rattle.kernels.proofs.NextBit.{none_from, none_more, found_from, found_at}
use Rattle.kernels.proofs.next.Goals as goal

pub returns-then-rest-ne0 : goal.returns-then-rest-ne0
returns-then-rest-ne0 c =
    let fit = (c.type_inv.words _).fits in
    found_from _ _ _ _ _ (omega arith) fit c.lowest.ensures

pub loop-i-init : goal.loop-i-init
loop-i-init c = (search rules, none_from _ _ _ c.if-rest-ne0.false)

pub returns-then-w-ne0 : goal.returns-then-w-ne0
returns-then-w-ne0 c =
    let (from-below, none) = c.loop-i.invariant in
    found_at _ _ _ _ _ _ from-below (omega arith) none c.lowest-then-w-ne0.ensures

pub loop-i-preserved : goal.loop-i-preserved
loop-i-preserved c = (search rules, none_more _ _ _ _ c.loop-i.invariant.1 c.if-w-ne0.false)

pub returns : goal.returns
returns c = λ j p q. c.loop-i.invariant.1 j p (omega arith)
