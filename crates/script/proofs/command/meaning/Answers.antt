-- `meaning` meets its contract, letter by letter. Assumes nothing.
use mathlib.Core.Path.{refl}
use native.Mathlib.Omega.{arith}
use Rattle.script.proofs.Telling.{by_letter, no_left-add, no_left-delete, tells_add, tells_delete, tells_parse, tells_collect, tells_restart, tells_list, tells_nothing}
use Rattle.script.proofs.command.meaning.Goals as goal

pub returns-in_err-checked_sub-in-65 : goal.returns-in_err-checked_sub-in-65
returns-in_err-checked_sub-in-65 c = by_letter c.in-65.is (no_left-add _ (omega arith) c.from_residual.ensures)

pub returns-in_err-checked_sub-in-68 : goal.returns-in_err-checked_sub-in-68
returns-in_err-checked_sub-in-68 c = by_letter c.in-68.is (no_left-delete _ (omega arith) c.from_residual-in_err-checked_sub-in-68.ensures)

pub returns-in_ok-checked_sub-in-65 : goal.returns-in_ok-checked_sub-in-65
returns-in_ok-checked_sub-in-65 c = by_letter c.in-65.is (tells_add _ _ (omega arith) c.of_symbols.ensures)

pub returns-in_ok-checked_sub-in-68 : goal.returns-in_ok-checked_sub-in-68
returns-in_ok-checked_sub-in-68 c = by_letter c.in-68.is (tells_delete _ _ (omega arith) c.of_symbols-in-68.ensures)

pub returns-in-80 : goal.returns-in-80
returns-in-80 c = by_letter c.in-80.is (tells_parse _ _ refl c.of_symbols-in-80.ensures)

pub returns-in-71 : goal.returns-in-71
returns-in-71 c = by_letter c.in-71.is (tells_collect _ c.alone.ensures)

pub returns-in-82 : goal.returns-in-82
returns-in-82 c = by_letter c.in-82.is (tells_restart _ c.alone-in-82.ensures)

pub returns-in-76 : goal.returns-in-76
returns-in-76 c = by_letter c.in-76.is (tells_list _ c.alone-in-76.ensures)

pub returns-in_default : goal.returns-in_default
returns-in_default c = tells_nothing _ _ (λ e. omega arith) (λ e. omega arith) (λ e. omega arith) (λ e. omega arith) (λ e. omega arith) (λ e. omega arith) (λ e. omega arith)
