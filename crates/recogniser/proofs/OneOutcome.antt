-- No second outcome fits Parse's promise: answer, number, and every number of the table and of the link buffer are determined.
-- Assumes nothing.
use mathlib.Core.Path.{◌≡◌, sym, ◌∙◌, subst}
use mathlib.Core.Logic.{◌⊎◌, inl, inr, ⊎_elim}
use mathlib.Core.List.{List}
use Prim.Native.Nat.{ℕ}
use native.Mathlib.Decide.{ℕ_discrete, dec_lt}
use native.Mathlib.Omega.{arith}
use lib.ListN.{length}
use lib.Seq.{ext_get_or}
use Rattle.std.specs.Prelude.{Result}
use Rattle.symbols.specs.Answer.{number_of, answer_of_parse}
use Rattle.symbols.specs.declared.refusal.Refusal.{Refusal}
use Rattle.symbols.specs.declared.verdict.Verdict.{Verdict}
use Rattle.symbols.proofs.Answers.{parse_injective}
use Rattle.table.specs.Layout.{Mem}
use Rattle.table.proofs.OneOutcome.{SameLengths}
use Rattle.form.proofs.OneOutcome as form
use Rattle.links.specs.Held.{Cleared}
use Rattle.recogniser.specs.Parse.{Past, Parses}

past_or_not : (a : ℕ) → Past a ⊎ (Past a → ⊥)
past_or_not a = elim (ℕ_discrete a 1) [
  | yes e ↦ inl (inl e)
  | no d ↦ elim (ℕ_discrete a 2) [
    | yes e ↦ inl (inr (inl e))
    | no f ↦ elim (ℕ_discrete a 20) [
      | yes e ↦ inl (inr (inr (inl e)))
      | no g ↦ elim (ℕ_discrete a 21) [
        | yes e ↦ inl (inr (inr (inr e)))
        | no h ↦ inr (⊎_elim d (⊎_elim f (⊎_elim g h)))
      ]
    ]
  ]
]

one-cleared : {n : ℕ} {b c c' : List ℕ} → Cleared n b c → Cleared n b c' → length c ≡ length c' → c ≡ c'
one-cleared {n} {c = c} {c'} z z' l =
    ext_get_or 0 c c' l (λ i k. elim (dec_lt i n) [
      | yes h ↦ z.low i h ∙ sym (z'.low i h)
      | no h ↦ z.high i (omega arith) ∙ sym (z'.high i (omega arith))
    ])

pub one-outcome : {pool : ℕ} {line : List ℕ} {m n n' : Mem} {b c c' : List ℕ} {v v' : Result Verdict Refusal}
    → Parses pool line m n b c v → Parses pool line m n' b c' v'
    → SameLengths n n' → length c ≡ length c' → (n ≡ n') × (c ≡ c') × (v ≡ v')
one-outcome {v = v} {v'} p q l k =
    let (en, ea, ek) = form.one-outcome p.promised q.promised l in
    let back = subst Past (sym ea) in (
      en,
      ⊎_elim (λ h. one-cleared (p.cleared h) (q.cleared (subst Past ea h)) k) (λ h. p.untouched h ∙ sym (q.untouched (λ z. h (back z))))
          (past_or_not (number_of (answer_of_parse v))),
      parse_injective v v' ea ek,
    )
