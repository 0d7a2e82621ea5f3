-- `Digits::more` meets its contract. Assumes nothing.
use mathlib.Core.Path.{sym, ap, ◌∙◌}
use Rattle.std.proofs.lemmas.Option.{none-some}
use native.Mathlib.Omega.{arith}
use Rattle.script.specs.Reading.{with_digit}
use Rattle.script.proofs.Reading.{digit-there}
use Rattle.script.proofs.cursor.Digits.more.Goals as goal

pub overflow_add-result : goal.overflow_add-result
overflow_add-result c = let t = digit-there (sym c.in_ok-d.ensures) in omega (arith, c.requires, t.small)

pub overflow_add-result-2 : goal.overflow_add-result-2
overflow_add-result-2 c = let t = digit-there (sym c.in_ok-d.ensures) in omega (arith, t.inside)

pub returns : goal.returns
unfolding with_digit
returns c = (λ e. none-some _ (sym e ∙ sym c.in_ok-d.ensures), ap (with_digit c.args.self) c.in_ok-d.ensures)
