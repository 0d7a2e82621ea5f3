-- `Cursor::letter` meets its contract, by the byte at the cursor. Assumes nothing.
use Rattle.script.proofs.Reading.{letter_past, no_letter, letter_there}
use Rattle.script.proofs.cursor.Cursor.letter.Goals as goal

pub returns-in_err-letter : goal.returns-in_err-letter
returns-in_err-letter c = letter_past _ _ c.in_err-letter.ensures.lookup.3 c.from_residual.ensures

pub returns-then-not-is_ascii_uppercase : goal.returns-then-not-is_ascii_uppercase
returns-then-not-is_ascii_uppercase c = let l = c.in_ok-letter.ensures.lookup in no_letter _ _ l.3.0 (l.3.1 0) c.if-not-is_ascii_uppercase.ensures.cases

pub returns : goal.returns
returns c = let l = c.in_ok-letter.ensures.lookup in letter_there _ _ l.3.0 (l.3.1 0) c.if-not-is_ascii_uppercase.ensures.cases
