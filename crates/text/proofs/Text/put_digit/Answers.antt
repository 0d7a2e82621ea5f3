-- `put_digit` meets its contract. Assumes nothing.
use Rattle.text.proofs.Putting.{adds_none, adds_as}
use Rattle.text.proofs.Digits.{digit_not, digit-there}
use Rattle.text.proofs.Text.put_digit.Goals as goal

pub returns-then-n-unit : goal.returns-then-n-unit
returns-then-n-unit c = adds_as (digit-there _ _ c.if-n-unit.true) c.put_byte.ensures

pub returns-else-n-unit : goal.returns-else-n-unit
returns-else-n-unit c = adds_as (digit_not _ _ c.if-n-unit.false) (adds_none _)
