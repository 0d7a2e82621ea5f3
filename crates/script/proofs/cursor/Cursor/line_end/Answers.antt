-- `Cursor::line_end` meets its contract. Assumes nothing.
use mathlib.Core.Path.{sym, ◌∙◌}
use Rattle.script.proofs.Reading.{end-over, end-newline, end_not}
use Rattle.script.proofs.cursor.Cursor.line_end.Goals as goal

pub returns-in-None : goal.returns-in-None
returns-in-None c = end-over _ _ c.in-None.ensures.lookup.3

pub returns-in-Some-eq10 : goal.returns-in-Some-eq10
returns-in-Some-eq10 c = let l = c.in-Some-eq10.ensures.lookup in end-newline _ _ l.3.0 (sym (l.3.1 0) ∙ c.in-Some-eq10.field-0-test)

pub returns-in-Some : goal.returns-in-Some
returns-in-Some c = let l = c.in-Some.ensures.lookup in end_not _ _ l.3.0 (λ e. c.in-Some.field-0-test.1 (l.3.1 0 ∙ e))
