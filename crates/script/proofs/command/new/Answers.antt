-- `new` meets its contract: by the count of the numbers. Assumes nothing.
use native.Mathlib.Omega.{arith}
use Rattle.script.proofs.Telling.{new-alone, new-sizes, new_miscounted}
use Rattle.script.proofs.command.new.Goals as goal

pub returns-in-empty : goal.returns-in-empty
returns-in-empty c = new-alone _ (omega arith)

pub returns-in-len3 : goal.returns-in-len3
returns-in-len3 c = new-sizes _ (omega arith)

pub returns-in_default : goal.returns-in_default
returns-in_default c = new_miscounted _ (λ e. omega arith) (λ e. omega arith)

pub returns-in_default-2 : goal.returns-in_default-2
returns-in_default-2 c = new_miscounted _ (λ e. omega arith) (λ e. omega arith)
