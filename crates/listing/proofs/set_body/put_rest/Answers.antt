-- `put_rest` meets its contract: nothing for a mark below EXPANDED, else the three parts. Assumes nothing.
use mathlib.Core.Path.{refl}
use mathlib.Core.List.{[]}
use Prim.Native.Nat.{◌+◌, ◌*◌}
use native.Mathlib.Omega.{arith}
use Rattle.laws.proofs.Choice.{when_yes, when_no}
use Rattle.text.proofs.Putting.{adds_none, adds_then, adds_as}
use Rattle.listing.proofs.Lengths.{transitions-length, reductions-length}
use Rattle.listing.proofs.Walks.{unexpanded-mark, expanded-mark, expanded-put}
use Rattle.listing.proofs.set_body.put_rest.Goals as goal

pub returns-then-m-lt-EXPANDED : goal.returns-then-m-lt-EXPANDED
returns-then-m-lt-EXPANDED c = adds_as (when_no _ (unexpanded-mark c.mark-m.ensures c.if-m-lt-EXPANDED.true) refl) (adds_none _)

pub put_reductions-requires : goal.put_reductions-requires
put_reductions-requires c =
    omega (arith, transitions-length c.args.cells.now c.args.s (λ k. (c.type_inv.cells (c.args.s * 128 + k)).fits) 128 (omega arith) (omega arith))

pub put_accept-requires : goal.put_accept-requires
put_accept-requires c =
    omega (
      arith,
      transitions-length c.args.cells.now c.args.s (λ k. (c.type_inv.cells (c.args.s * 128 + k)).fits) 128 (omega arith) (omega arith),
      reductions-length c.args.words.now (c.args.s * 18 + 16) 128 (omega arith),
    )

pub returns : goal.returns
returns c = let put = adds_then c.put_transitions.ensures (adds_then c.put_reductions.ensures c.put_accept.ensures) in
    adds_as (when_yes [] (expanded-mark c.mark-m.ensures c.if-m-lt-EXPANDED.false) (expanded-put c.args.cells.now c.args.words.now c.args.s c.mark-m.ensures)) put
