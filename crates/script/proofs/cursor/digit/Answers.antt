-- `digit` meets its contract, by the byte at the place. Assumes nothing.
use mathlib.Core.Path.{◌∙◌}
use Rattle.script.proofs.Reading.{digit-past, digit-none, digit-here}
use Rattle.script.proofs.cursor.digit.Goals as goal

pub returns-in_err-b : goal.returns-in_err-b
returns-in_err-b c = c.from_residual.ensures ∙ digit-past _ _ c.in_err-b.ensures.lookup.3

pub returns-then-not-is_ascii_digit : goal.returns-then-not-is_ascii_digit
returns-then-not-is_ascii_digit c = digit-none _ _ (c.in_ok-b.ensures.lookup.3.1 0) c.if-not-is_ascii_digit.ensures.cases

pub returns : goal.returns
returns c = digit-here _ _ (c.in_ok-b.ensures.lookup.3.1 0) c.if-not-is_ascii_digit.ensures.cases
