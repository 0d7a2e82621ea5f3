-- `read` meets its contract: a line without a letter, without numbers up to its end, or with text after its end is not written as a
-- command; any other is, and what is read tells its meaning. Assumes nothing.
use mathlib.Core.Path.{refl, sym, subst}
use lib.Seq.{length-take-le}
use Rattle.script.specs.Command.{Reads}
use Rattle.script.specs.Reading.{LetterAt, NumbersAt}
use Rattle.script.proofs.Telling.{no_letter_read, no_numbers_read, more_than_a_line, symbols-bytes, line_read}
use Rattle.script.proofs.command.read.Goals as goal

pub returns-in_err-letter : goal.returns-in_err-letter
returns-in_err-letter c = no_letter_read c.in_err-letter.ensures c.from_residual.ensures

pub returns-in_err-n : goal.returns-in_err-n
unfolding LetterAt
returns-in_err-n c = no_numbers_read c.in_ok-letter.ensures _ c.numbers.auto.out c.in_err-n.ensures c.from_residual-in_err-n.ensures

pub returns-then-end-line : goal.returns-then-end-line
unfolding LetterAt NumbersAt
returns-then-end-line c = more_than_a_line c.in_ok-letter.ensures _ c.numbers.auto.out c.in_ok-n.ensures c.if-end-line.true

pub slice_bounds-ns-end : goal.slice_bounds-ns-end
unfolding NumbersAt
slice_bounds-ns-end c = c.in_ok-n.ensures.room

pub slice_bounds-meaning-end : goal.slice_bounds-meaning-end
unfolding NumbersAt
slice_bounds-meaning-end c = sym (length-take-le _ _ c.in_ok-n.ensures.room)

pub returns-in_err-command : goal.returns-in_err-command
unfolding LetterAt NumbersAt
returns-in_err-command c = subst (λ r. Reads c.args.line.now c.args.symbols.now c.args.symbols.now r) (sym c.from_residual-in_err-command.ensures)
    (line_read c.in_ok-letter.ensures _ c.numbers.auto.out c.in_ok-n.ensures c.in_err-command.ensures c.if-end-line.false refl refl)

pub copy-requires-clause-by_index : goal.copy-requires-clause-by_index
unfolding LetterAt NumbersAt
copy-requires-clause-by_index c = symbols-bytes c.in_ok-letter.ensures _ c.numbers.auto.out c.in_ok-n.ensures c.in_ok-command.ensures c.symbols.ensures

pub returns : goal.returns
unfolding LetterAt NumbersAt
returns c = line_read c.in_ok-letter.ensures _ c.numbers.auto.out c.in_ok-n.ensures c.in_ok-command.ensures c.if-end-line.false c.symbols.ensures c.copy.ensures
