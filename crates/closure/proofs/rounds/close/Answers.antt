-- `closure::rounds::close` meets its contract. The invariant: the closure has grown from the kernel, and n is how many items it
-- has. Each round but the last adds one. Assumes nothing.
use mathlib.Core.Path.{◌≡◌, refl, sym, ◌∙◌}
use native.Mathlib.Omega.{arith}
use borrow.Author.Rules.{rules}
use lib.ListN.{length}
use Rattle.kernels.proofs.Kernel.{items_le}
use Rattle.kernels.proofs.Puts.{has-zero, items_kept}
use Rattle.closure.proofs.UnderWay.{nothing_met, grew_none, grew-more, none-added}
use Rattle.closure.proofs.Closed.{is-closure}
use Rattle.closure.proofs.rounds.close.Goals as goal

pub loop-items-init : goal.loop-items-init
loop-items-init c =
    let long : length c.args.kernel ≡ 16 = search rules in
    (grew_none (nothing_met long refl c.requires.1 (has-zero 2)), c.count-items.ensures)

pub returns-then-more-items : goal.returns-then-more-items
returns-then-more-items c =
    is-closure c.args.rules.now _ _ _ _ c.requires.0 (grew-more c.loop-items.invariant.0 c.round.ensures.grew)
    (none-added c.round.ensures.grew c.round.ensures.all (sym c.loop-items.invariant.1 ∙ sym c.if-more-items.true ∙ c.count-more.ensures))

pub loop-items-smaller : goal.loop-items-smaller
loop-items-smaller c =
    omega (arith, c.loop-items.invariant.1, c.count-more.ensures, c.if-more-items.false, items_kept _ _ c.round.ensures.grew.kept, items_le c.round.new.closure 0)

pub loop-items-preserved : goal.loop-items-preserved
loop-items-preserved c = (grew-more c.loop-items.invariant.0 c.round.ensures.grew, c.count-more.ensures)
