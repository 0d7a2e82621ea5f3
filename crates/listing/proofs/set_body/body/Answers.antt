-- `body` meets its contract. Assumes nothing.
use Prim.Native.Nat.{◌+◌, ◌*◌}
use native.Mathlib.Omega.{arith}
use Rattle.text.proofs.Putting.{adds_then}
use Rattle.listing.specs.Walk.{body_of}
use Rattle.listing.proofs.Lengths.{three_digits, items-length, rest-length}
use Rattle.listing.proofs.set_body.body.Goals as goal

pub put_kernel-requires : goal.put_kernel-requires
put_kernel-requires c = omega (arith, three_digits c.args.s (omega arith))

pub put_rest-requires : goal.put_rest-requires
put_rest-requires c = omega (arith, three_digits c.args.s (omega arith), items-length c.args.words.now (c.args.s * 18) 1024 (omega arith))

pub put_byte-requires-2 : goal.put_byte-requires-2
put_byte-requires-2 c =
    omega (
      arith,
      three_digits c.args.s (omega arith),
      items-length c.args.words.now (c.args.s * 18) 1024 (omega arith),
      rest-length c.args.cells.now c.args.words.now c.args.s (λ k. (c.type_inv.cells (c.args.s * 128 + k)).fits),
    )

pub returns-clause-body : goal.returns-clause-body
unfolding body_of
returns-clause-body c =
    adds_then c.put_byte.ensures (adds_then c.put_spaced.ensures (adds_then c.put_kernel.ensures (adds_then c.put_rest.ensures c.put_byte-2.ensures)))

pub returns-clause-within : goal.returns-clause-within
returns-clause-within c =
    omega (
      arith,
      three_digits c.args.s (omega arith),
      items-length c.args.words.now (c.args.s * 18) 1024 (omega arith),
      rest-length c.args.cells.now c.args.words.now c.args.s (λ k. (c.type_inv.cells (c.args.s * 128 + k)).fits),
    )
