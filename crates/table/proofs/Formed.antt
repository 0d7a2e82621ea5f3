-- What numbers that hold a table in form have in their parts. Assumes nothing.
use mathlib.Core.List.{List}
use mathlib.Core.Logic.{◌≢◌}
use mathlib.Core.Path.{refl, sym, subst, ◌∙◌}
use Prim.Native.Nat.{ℕ, ◌≤◌, ◌<◌}
use native.Mathlib.Decide.{ℕ_discrete}
use native.Mathlib.Omega.{arith}
use lib.Dec.{T}
use Rattle.laws.proofs.Tests.{all-below}
use Rattle.symbols.specs.Symbol.{on_right, all_on_right}
use Rattle.symbols.specs.Rule.{WellFormed}
use Rattle.theory.specs.Form.{RuleInForm, SetInForm}
use Rattle.theory.proofs.Sets.{used-inside}
use Rattle.table.specs.Layout.{Mem, sets_in, rules_in, rule_number, cell, transition, rule_seen, set_seen, view}
use Rattle.table.specs.Write.{rule_in}
use Rattle.table.specs.Laid.{LaidRule, LaidRules, Laid, FormedRules, Formed}
use Rattle.table.proofs.Once.{in_transitions}
use Rattle.table.proofs.Read.{view-length, rule_read, set_read, right_read, right-length}
use Rattle.table.proofs.Becoming.{sets-seen}
use Rattle.table.proofs.RuleNumbers.{in_place, in_seven}

-- a rule in use that is laid out and in form is a rule as a record
pub formed_well : (rs : List ℕ) (r : ℕ) → rule_number rs r 0 ≢ 0 → LaidRule rs r → RuleInForm (rule_seen rs r) → WellFormed (rule_in rs r)
unfolding rule_in rule_seen all_on_right
formed_well rs r d l f = record {
  seven = in_seven rs r;
  left_not_zero = (l.left d).0;
  left_symbol = (l.left d).1;
  short = l.short;
  places_on_right = λ k p. let s = l.short in
      subst (λ y. T (on_right y)) (right_read rs r k p ∙ sym (in_place rs r k (omega arith)))
      ((all-below _ _).0 (f.right d) k (omega (arith, right-length rs r)));
  beyond = λ k p q. in_place rs r k q ∙ l.beyond k p q;
}

module _ {m : Mem} where
  pub laid-rules : Laid m → LaidRules m.rules
  laid-rules l = let z = l.sized in record { some_rules = z.some_rules; few_rules = z.few_rules; long = z.rules; each_rule = l.each_rule }

  pub formed-rules : Formed m → FormedRules m.rules
  formed-rules f = record {
    laid = laid-rules f.laid;
    form = λ r l. subst RuleInForm (rule_read m.rules r l) (f.form.rules r (omega (arith, view-length m.rules)));
  }

  pub set-formed : Formed m → (s : ℕ) → s < sets_in m.rules → SetInForm (view m).rules (view m).sets (set_seen (rules_in m.rules) m.sets s)
  set-formed f s l =
      subst (SetInForm (view m).rules (view m).sets) (set_read (sets_in m.rules) (rules_in m.rules) m.sets s l)
      (f.form.sets s (omega (arith, sets-seen m)))

  -- a target is one of the pool's sets
  pub target-inside : Formed m → (s x : ℕ) → s < sets_in m.rules → 1 ≤ x → x < 128 → cell m.sets s x < sets_in m.rules
  target-inside f s x l p q = elim (ℕ_discrete (cell m.sets s x) 0) [
    | yes z ↦ omega (arith, f.laid.sized.some_sets)
    | no d ↦
        let u = ((set-formed f s l).targets (transition x (cell m.sets s x)) ((in_transitions m.sets s x (cell m.sets s x)).1 ((p, q), (refl, d)))).0 in
        omega (arith, used-inside (view m).sets (cell m.sets s x) u, sets-seen m)
  ]
