-- A rule that came through the check of loose numbers, and the searches for it. Assumes nothing.
use mathlib.Core.List.{List}
use mathlib.Core.Path.{◌≡◌, refl, sym, ap, ap₂, subst, ◌∙◌}
use Prim.Native.Nat.{ℕ, ◌≤◌}
use Rattle.std.specs.Prelude.{Result, Ok}
use Rattle.symbols.specs.Symbol.{rule_answer}
use Rattle.symbols.specs.Rule.{WellFormed, right_side, rule_of}
use Rattle.symbols.specs.Check.{RuleChecked}
use Rattle.symbols.specs.declared.refusal.Refusal.{Refusal}
use Rattle.symbols.specs.declared.rule.Rule.{Rule}
use Rattle.symbols.proofs.Rules.{right_of}
use Rattle.symbols.proofs.Checks.{done_facts, done-well_formed}
use Rattle.theory.specs.Calls.{is_rule, lowest_rule}
use Rattle.theory.proofs.Accepted.{placed}
use Rattle.table.specs.Layout.{rules_in, view_rules}
use Rattle.table.specs.Laid.{FormedRules}
use Rattle.changes.specs.Change.{place_of}
use Rattle.checks.specs.Find.{is_at, lowest}
use Rattle.checks.proofs.Search.{found-is}

module _ (x : ℕ) (w : List ℕ) (y : Rule) (c : RuleChecked x w (Ok y)) where
  pub is-rule : rule_answer x w ≡ 0
  is-rule = sym c.answer

  rule-is : y ≡ rule_of x w
  rule-is = c.done y refl

  pub rule_well : WellFormed y
  rule_well = subst WellFormed (sym rule-is) (done-well_formed x w is-rule)

  left_is : y.left.0 ≡ x
  left_is = ap (λ r. r.left.0) rule-is ∙ unfold rule_of in refl

  right_is : right_side y ≡ w
  right_is = ap right_side rule-is ∙ right_of x w (done_facts x w is-rule).1

  pub place_is : (state : ℕ) → place_of state y ≡ placed state x w
  place_is state = λ i. record { state = state; left = left_is i; right = right_is i }

  -- the number that a search for the rule answers
  pub search_is : (rs : List ℕ) → FormedRules rs → (state : ℕ) → 1 ≤ state → {r : ℕ} → r ≡ lowest (rules_in rs) (is_at rs state y) → r ≡ lowest_rule (is_rule state x w) (view_rules rs)
  search_is rs f state used e = e ∙ found-is rs f state used y rule_well ∙ ap₂ (λ (l : ℕ) (v : List ℕ). lowest_rule (is_rule state l v) (view_rules rs)) left_is right_is

-- what passes has one number and one rule
pub same_pair : {A : Type 0} {a b : A} {y z : Rule} → ◌≡◌ {A = Result (A × Rule) Refusal} (Ok (a, y)) (Ok (b, z)) → (a ≡ b) × (y ≡ z)
same_pair {A} {a} {b} {y} {z} e = let p : ◌≡◌ {A = A × Rule} (a, y) (b, z) = cc in (ap (λ q. q.0) p, ap (λ q. q.1) p)
