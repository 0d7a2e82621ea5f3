-- `closure::walks::Completed::put` meets its contract. Assumes nothing.
use mathlib.Core.Path.{◌≡◌, refl, sym, ap, ◌∙◌}
use mathlib.Core.Bool.{true, not}
use Prim.Native.Nat.{ℕ}
use lib.Dec.{eqb}
use Rattle.laws.proofs.Choice.{when_yes, when_no, and_on, and_off}
use Rattle.symbols.specs.Symbol.{START}
use Rattle.kernels.proofs.Puts.{put_if_yes, put_if_no}
use Rattle.closure.proofs.walks.Completed.put.Goals as goal

of_left : {a b : ℕ} → a ≡ b → eqb a START ≡ eqb b START
of_left e = ap (λ x. eqb x START) e

pub returns-then-not-ends-clause-reductions : goal.returns-then-not-ends-clause-reductions
returns-then-not-ends-clause-reductions c = put_if_no _ (sym (and_off _ (sym c.ends.ensures ∙ c.if-not-ends.true)))

pub returns-then-not-ends-clause-accepts : goal.returns-then-not-ends-clause-accepts
returns-then-not-ends-clause-accepts c = when_no true (sym (and_off _ (sym c.ends.ensures ∙ c.if-not-ends.true))) refl

pub returns-then-is_start-clause-reductions : goal.returns-then-is_start-clause-reductions
returns-then-is_start-clause-reductions c =
    put_if_no _ (sym (and_on (sym c.if-not-ends.ensures) (ap not (c.if-is_start.ensures ∙ of_left c.left.ensures))))

pub returns-then-is_start-clause-accepts : goal.returns-then-is_start-clause-accepts
returns-then-is_start-clause-accepts c =
    when_yes _ (sym (and_on (sym c.if-not-ends.ensures) (c.if-is_start.ensures ∙ of_left c.left.ensures))) refl

pub returns-else-is_start-clause-reductions : goal.returns-else-is_start-clause-reductions
returns-else-is_start-clause-reductions c =
    put_if_yes _ _ (sym (and_on (sym c.if-not-ends.ensures) (ap not (c.if-is_start.ensures ∙ of_left c.left.ensures)))) c.put.ensures

pub returns-else-is_start-clause-accepts : goal.returns-else-is_start-clause-accepts
returns-else-is_start-clause-accepts c =
    when_no true (sym (and_on (sym c.if-not-ends.ensures) (c.if-is_start.ensures ∙ of_left c.left.ensures))) refl
