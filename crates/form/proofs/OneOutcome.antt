-- No second outcome fits a promise on a lent table: answer, number and every lent number are determined. Assumes nothing.
use mathlib.Core.Path.{◌≡◌, sym, ◌∙◌}
use mathlib.Core.Logic.{⊎_elim}
use Prim.Native.Nat.{ℕ}
use Rattle.theory.specs.Table.{Table}
use Rattle.theory.specs.Parse.{Outcome}
use Rattle.table.specs.Layout.{Mem, view}
use Rattle.table.specs.Becomes.{Promised}
use Rattle.table.proofs.OneOutcome.{SameLengths, one_memory}
use Rattle.form.proofs.Formed.{formed_dec}

pub one-outcome : {call : Table → Outcome} {m n n' : Mem} {a a' k k' : ℕ} → Promised call m n a k → Promised call m n' a' k' → SameLengths n n'
    → (n ≡ n') × (a ≡ a') × (k ≡ k')
one-outcome {call} {m} {n} {n'} p q l =
    ⊎_elim
    (λ f. (one_memory m n n' (call (view m)).table (p.table f) (q.table f) l, p.answer f ∙ sym (q.answer f), p.number f ∙ sym (q.number f)))
    (λ g. let (a, k, e) = p.no_table g in let (a', k', e') = q.no_table g in (e ∙ sym e', a ∙ sym a', k ∙ sym k'))
    (formed_dec m)
