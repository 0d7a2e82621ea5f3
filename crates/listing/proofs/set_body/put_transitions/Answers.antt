-- `put_transitions` meets its contract. Assumes nothing.
use native.Mathlib.Omega.{arith}
use mathlib.Core.Path.{◌≡◌, ap}
use Prim.Native.Nat.{◌+◌, ◌*◌}
use Rattle.text.proofs.Putting.{adds_then, adds_as}
use Rattle.listing.specs.Walk.{listed, leads, transition_of}
use Rattle.listing.proofs.Lengths.{transitions-length}
use Rattle.listing.proofs.Walks.{put-none, put-turn}
use Rattle.listing.proofs.set_body.put_transitions.Goals as goal

pub loop-x-init : goal.loop-x-init
loop-x-init c = put-none (leads c.args.cells.now c.args.s) (transition_of c.args.cells.now c.args.s) 1

pub put_transition-requires : goal.put_transition-requires
put_transition-requires c =
    omega (arith, transitions-length c.args.cells.now c.args.s (λ k. (c.type_inv.cells (c.args.s * 128 + k)).fits) c.loop-x.x (omega arith) (omega arith))

pub loop-x-preserved : goal.loop-x-preserved
loop-x-preserved c = put-turn (leads c.args.cells.now c.args.s) (transition_of c.args.cells.now c.args.s) 1 c.loop-x.invariant (omega arith) c.put_transition.ensures

pub returns : goal.returns
returns c =
    let whole : c.loop-x.x ≡ 128 = omega arith in
    adds_then c.put_letter.ensures (adds_as (ap (listed (leads c.args.cells.now c.args.s) (transition_of c.args.cells.now c.args.s) 1) whole) c.loop-x.invariant)
