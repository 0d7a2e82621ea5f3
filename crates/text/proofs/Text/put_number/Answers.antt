-- `put_number` meets its contract: the digits that are put are the number's. Assumes nothing.
use native.Mathlib.Omega.{arith}
use Rattle.text.proofs.Putting.{adds_then, adds_as}
use Rattle.text.proofs.Digits.{digit-length, decimal_parts}
use Rattle.text.proofs.Text.put_number.Goals as goal

pub put_digit-requires-2 : goal.put_digit-requires-2
put_digit-requires-2 c = omega (arith, digit-length 1000 c.args.n)

pub put_digit-requires-3 : goal.put_digit-requires-3
put_digit-requires-3 c = omega (arith, digit-length 1000 c.args.n, digit-length 100 c.args.n)

pub put_byte-requires : goal.put_byte-requires
put_byte-requires c = omega (arith, digit-length 1000 c.args.n, digit-length 100 c.args.n, digit-length 10 c.args.n)

pub returns : goal.returns
returns c = adds_as (decimal_parts _ c.requires.0) (adds_then c.put_digit.ensures (adds_then c.put_digit-2.ensures (adds_then c.put_digit-3.ensures c.put_byte.ensures)))
