-- `put_reductions` meets its contract. Assumes nothing.
use native.Mathlib.Omega.{arith}
use Rattle.text.proofs.Putting.{adds_then}
use Rattle.listing.specs.Walk.{reduction_of}
use Rattle.listing.proofs.Lengths.{reductions-length}
use Rattle.listing.proofs.Walks.{putting_start, putting-least, putting_turn, putting_end}
use Rattle.listing.proofs.set_body.put_reductions.Goals as goal

pub loop-r-init : goal.loop-r-init
loop-r-init c =
    rw c.into_iter-r-iterator.ensures.into_iter_gives (putting_start reduction_of c.of-r-items.ensures.over c.of-r-items.ensures.start)

pub put_spaced-requires : goal.put_spaced-requires
put_spaced-requires c =
    let put = c.loop-r.invariant in
    let l = putting-least put c.in-Some.ensures.steps in
    omega (arith, l.above, l.inside, reductions-length c.args.words.now c.args.at c.loop-r.r-iterator.from put.inside)

pub loop-r-preserved : goal.loop-r-preserved
unfolding reduction_of
loop-r-preserved c = putting_turn c.loop-r.invariant c.in-Some.ensures.steps c.put_spaced.ensures

pub returns : goal.returns
returns c = adds_then c.put_letter.ensures (putting_end c.loop-r.invariant c.in-None.ensures.steps)
