-- Number k of the ten: its place decides. Assumes nothing.
use mathlib.Core.Path.{ap, ◌∙◌}
use native.Mathlib.Omega.{arith}
use Rattle.table.proofs.RuleNumbers.{ten_state, ten_left, ten_len, ten_place}
use Rattle.table.proofs.rules.number.Goals as goal

pub returns-in-0 : goal.returns-in-0
returns-in-0 c = ten_state _ _ (omega arith)

pub returns-in-1 : goal.returns-in-1
returns-in-1 c = ten_left _ _ (omega arith)

pub returns-in-2 : goal.returns-in-2
returns-in-2 c = ten_len _ _ (omega arith)

pub returns-in_default : goal.returns-in_default
returns-in_default c = ap (λ s. s.0) c.at.ensures ∙ ten_place _ _ _ (omega arith) (omega arith)
