-- What the check of a Delete has found is what the model's Delete does. Assumes nothing.
use mathlib.Core.List.{List}
use mathlib.Core.Path.{◌≡◌, refl, sym, ap, ap₂, subst, ◌∙◌}
use mathlib.Core.Bool.{true, false}
use Prim.Native.Nat.{ℕ, ◌≤◌, ◌<◌}
use native.Mathlib.Omega.{arith}
use borrow.Author.Tests.{eq-eqb, ne_eqb, lt-ltb, le-ltb}
use lib.ListN.{length}
use Rattle.std.specs.Option.{ok_or}
use Rattle.std.specs.Prelude.{Option, Some, None, Ok, Err}
use Rattle.laws.specs.Lists.{someIn}
use Rattle.laws.proofs.Choice.{when_yes, when_no}
use Rattle.symbols.specs.Rule.{WellFormed}
use Rattle.symbols.specs.Answer.{refusal_number}
use Rattle.symbols.specs.Check.{RuleChecked}
use Rattle.symbols.specs.declared.refusal.Refusal.{Refusal}
use Rattle.symbols.specs.declared.refusal.Refusal.TheVariants.{NotThere}
use Rattle.symbols.specs.declared.rule.Rule.{Rule}
use Rattle.symbols.proofs.Answers.{refusal_high}
use Rattle.theory.specs.Table.{CURRENT, WITHDRAWN, RulePlace, SetPlace}
use Rattle.theory.specs.Parse.{outcome}
use Rattle.theory.specs.Calls.{refused, put_rule, is_rule, lowest_rule, delete_in_form}
use Rattle.table.specs.Layout.{rules_in, view_rules}
use Rattle.table.specs.Laid.{FormedRules}
use Rattle.table.proofs.Read.{view-length}
use Rattle.changes.specs.Change.{place_of}
use Rattle.checks.specs.Find.{Lowest, is_at, lowest}
use Rattle.checks.specs.Found.{with_sets, DeleteFound}
use Rattle.checks.proofs.Search.{some-lowest}
use Rattle.checks.proofs.Checked.{is-rule, rule_well, place_is, search_is, same_pair}

module _ (rs : List ℕ) (x : ℕ) (w : List ℕ) where
  refuses : (e : Refusal) → ((ss : List SetPlace) → delete_in_form (with_sets rs ss) x w ≡ refused (refusal_number e) (with_sets rs ss)) → DeleteFound rs x w (Err e)
  refuses e h = record {
    refuses = λ f q ss. let z : e ≡ f = cc in h ss ∙ ap (λ i. refused (refusal_number i) (with_sets rs ss)) z;
    deletes = λ r y q. cc;
    inside = λ r y q. cc;
    rule = λ r y q. cc;
  }

  -- 12, 13, 14
  pub delete-refused : (e : Refusal) → RuleChecked x w (Err e) → DeleteFound rs x w (Err e)
  delete-refused e c =
      refuses e (λ ss. sym (when_no _ (ne_eqb _ _ (λ z. let h = refusal_high e in omega (arith, c.answer))) (ap (λ a. refused a (with_sets rs ss)) c.answer)))

  module _ (y : Rule) (c : RuleChecked x w (Ok y)) (f : FormedRules rs) where
    number : lowest (rules_in rs) (is_at rs 1 y) ≡ lowest_rule (is_rule CURRENT x w) (view_rules rs)
    number = search_is x w y c rs f 1 (omega arith) refl

    -- 16
    pub delete-absent : (o : Option ℕ) (e : Refusal) → Lowest (rules_in rs) (is_at rs 1 y) o → Err e ≡ ok_or o NotThere → DeleteFound rs x w (Err e)
    delete-absent (Some r) e l q = cc
    delete-absent None e l q =
        let beyond : length (view_rules rs) ≤ lowest_rule (is_rule CURRENT x w) (view_rules rs) = omega (arith, number, view-length rs) in
        let none : someIn (is_rule CURRENT x w) (view_rules rs) ≡ false = some-lowest (is_rule CURRENT x w) (view_rules rs) ∙ le-ltb _ _ beyond in
        subst (DeleteFound rs x w) (let z : NotThere ≡ e = cc in ap Err z) (refuses NotThere (λ ss. sym (when_yes _ (eq-eqb _ _ (is-rule x w y c)) (when_no _ none refl))))

    pub delete-there : (o : Option ℕ) (r : ℕ) → Lowest (rules_in rs) (is_at rs 1 y) o → Ok r ≡ ok_or o NotThere → DeleteFound rs x w (Ok (r, y))
    delete-there None r l t = cc
    delete-there (Some k) r (l, e) t =
        let same : k ≡ r = cc in
        let below : lowest_rule (is_rule CURRENT x w) (view_rules rs) < length (view_rules rs) = omega (arith, number, view-length rs) in
        let some : someIn (is_rule CURRENT x w) (view_rules rs) ≡ true = some-lowest (is_rule CURRENT x w) (view_rules rs) ∙ lt-ltb _ _ below in
        record {
          refuses = λ g q. cc;
          deletes = λ i z q ss. let (p, o) = same_pair q in sym (when_yes _ (eq-eqb _ _ (is-rule x w y c)) (when_yes _ some
              (ap₂ (λ (j : ℕ) (v : RulePlace). outcome 0 j (put_rule (with_sets rs ss) j v)) (sym p ∙ sym same ∙ e ∙ number) (ap (place_of WITHDRAWN) (sym o) ∙ place_is x w y c WITHDRAWN))));
          inside = λ i z q. let (p, o) = same_pair q in subst (λ j. j < rules_in rs) (same ∙ p) l;
          rule = λ i z q. let (p, o) = same_pair q in subst WellFormed o (rule_well x w y c);
        }
