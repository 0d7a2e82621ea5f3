-- `put_kernel` meets its contract. Assumes nothing.
use native.Mathlib.Omega.{arith}
use Rattle.text.proofs.Putting.{adds_then}
use Rattle.listing.specs.Walk.{item_of}
use Rattle.listing.proofs.Lengths.{items-length}
use Rattle.listing.proofs.Walks.{putting_start, putting-least, putting_turn, putting_end}
use Rattle.listing.proofs.set_body.put_kernel.Goals as goal

pub loop-item-init : goal.loop-item-init
loop-item-init c =
    rw c.into_iter-item-iterator.ensures.into_iter_gives (putting_start item_of c.of-item-items.ensures.over c.of-item-items.ensures.start)

pub put_item-requires : goal.put_item-requires
put_item-requires c =
    let put = c.loop-item.invariant in
    let l = putting-least put c.in-Some.ensures.steps in
    omega (arith, l.above, l.inside, items-length c.args.words.now c.args.at c.loop-item.item-iterator.from put.inside)

pub loop-item-preserved : goal.loop-item-preserved
loop-item-preserved c = putting_turn c.loop-item.invariant c.in-Some.ensures.steps c.put_item.ensures

pub returns : goal.returns
returns c = adds_then c.put_letter.ensures (putting_end c.loop-item.invariant c.in-None.ensures.steps)
