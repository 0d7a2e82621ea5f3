-- `Digits::ended` meets its contract. Assumes nothing.
use mathlib.Core.Path.{ap, ◌∙◌}
use Rattle.std.specs.Prelude.{Some}
use Rattle.script.specs.Reading.{unless_digit}
use Rattle.script.proofs.cursor.Digits.ended.Goals as goal

pub returns-in-Some : goal.returns-in-Some
unfolding unless_digit
returns-in-Some c = ap (unless_digit c.args.self) c.in-Some.ensures

pub returns-in-None : goal.returns-in-None
unfolding unless_digit
returns-in-None c = ap Some c.read.ensures ∙ ap (unless_digit c.args.self) c.in-None.ensures
