-- What the check of an Add has found is what the model's Add does. Assumes nothing.
use mathlib.Core.List.{List, map}
use mathlib.Core.Logic.{⊎_elim}
use mathlib.Core.Path.{◌≡◌, refl, sym, ap, ap₂, subst, ◌∙◌}
use mathlib.Core.Bool.{Bool, true, false}
use Prim.Native.Nat.{ℕ, ◌≤◌, ◌<◌, zero-le}
use native.Mathlib.Omega.{arith}
use borrow.Author.Tests.{eq-eqb, ne_eqb, lt-ltb, le-ltb}
use lib.Dec.{T, eqb}
use lib.ListN.{length}
use Rattle.std.specs.Prelude.{Option, Some, None, Ok, Err}
use Rattle.laws.specs.Loops.{all_below}
use Rattle.laws.specs.Lists.{someIn, up_from}
use Rattle.laws.proofs.Choice.{when_yes, when_no}
use Rattle.laws.proofs.Lists.{first_in, in_up}
use Rattle.laws.proofs.Tests.{eqb_iff, all-below}
use Rattle.symbols.specs.Rule.{WellFormed}
use Rattle.symbols.specs.Answer.{refusal_number}
use Rattle.symbols.specs.Check.{RuleChecked}
use Rattle.symbols.specs.declared.refusal.Refusal.{Refusal}
use Rattle.symbols.specs.declared.refusal.Refusal.TheVariants.{There, NoRules}
use Rattle.symbols.specs.declared.rule.Rule.{Rule}
use Rattle.symbols.proofs.Answers.{refusal_high}
use Rattle.theory.specs.Table.{FREE, CURRENT, WITHDRAWN, RulePlace, SetPlace, rule_at}
use Rattle.theory.specs.Parse.{outcome}
use Rattle.theory.specs.Expansion.{freed}
use Rattle.theory.specs.Form.{Named}
use Rattle.theory.specs.Calls.{refused, put_rule, is_rule, is_free, lowest_rule, add_to, add_in_form}
use Rattle.theory.proofs.Accepted.{placed}
use Rattle.theory.proofs.Freed.{used_stays, none_withdrawn}
use Rattle.table.specs.Layout.{rules_in, view_rules}
use Rattle.table.specs.Laid.{FormedRules}
use Rattle.table.proofs.Read.{rule_read, view-length}
use Rattle.changes.specs.Change.{place_of}
use Rattle.checks.specs.Find.{Lowest, has_state, is_at, lowest}
use Rattle.checks.specs.Found.{with_sets, add_later, AddFound}
use Rattle.checks.proofs.Search.{some-lowest, free_is, full_is}
use Rattle.checks.proofs.Checked.{is-rule, rule_well, place_is, search_is, same_pair}

-- where not every number is current, collection leaves one free
free_after : (v : List RulePlace) → ((r : ℕ) → r < length v → (rule_at v r).state ≤ WITHDRAWN) → all_below (length v) (λ r. eqb (rule_at v r).state CURRENT) ≡ false
    → lowest_rule is_free (map freed v) < length v
free_after v states some =
    let n : length (map freed v) ≡ length v = lib.ListN.length-map v freed in
    ⊎_elim (λ (m, t). let h = ((in_up 0 (length (map freed v))).0 m).1 in omega arith)
    (λ (e, none). absurd (subst T some ((all-below (length v) (λ r. eqb (rule_at v r).state CURRENT)).1 (λ r l.
    let used : Named (map freed v) r = λ z. none r ((in_up 0 (length (map freed v))).1 (zero-le, omega arith)) ((eqb_iff _ FREE).1 z) in
    let s : (rule_at (map freed v) r).state ≡ (rule_at v r).state = ap (λ p. p.state) (used_stays v r used) in
    let w = none_withdrawn v r in
    let h = states r l in
    (eqb_iff (rule_at v r).state CURRENT).1 (omega arith)))))
    (first_in (λ r. is_free (rule_at (map freed v) r)) (length (map freed v)) (up_from 0 (length (map freed v))))

module _ (rs : List ℕ) (x : ℕ) (w : List ℕ) where
  refuses : (e : Refusal) → ((ss : List SetPlace) → add_in_form (with_sets rs ss) x w ≡ refused (refusal_number e) (with_sets rs ss)) → AddFound rs x w (Err e)
  refuses e h = record {
    refuses = λ f q ss. let z : e ≡ f = cc in h ss ∙ ap (λ i. refused (refusal_number i) (with_sets rs ss)) z;
    adds = λ r y q. cc;
    collects = λ y q. cc;
    inside = λ r y q. cc;
    rule = λ o y q. cc;
  }

  -- 12, 13, 14
  pub add-refused : (e : Refusal) → RuleChecked x w (Err e) → AddFound rs x w (Err e)
  add-refused e c =
      refuses e (λ ss. sym (when_no _ (ne_eqb _ _ (λ z. let h = refusal_high e in omega (arith, c.answer))) (ap (λ a. refused a (with_sets rs ss)) c.answer)))

  module _ (y : Rule) (c : RuleChecked x w (Ok y)) (f : FormedRules rs) where
    current : lowest (rules_in rs) (is_at rs 1 y) ≡ lowest_rule (is_rule CURRENT x w) (view_rules rs)
    current = search_is x w y c rs f 1 (omega arith) refl

    -- 15
    pub add-there : lowest (rules_in rs) (is_at rs 1 y) < rules_in rs → AddFound rs x w (Err There)
    add-there l =
        let below : lowest_rule (is_rule CURRENT x w) (view_rules rs) < length (view_rules rs) = omega (arith, current, view-length rs) in
        let some : someIn (is_rule CURRENT x w) (view_rules rs) ≡ true = some-lowest (is_rule CURRENT x w) (view_rules rs) ∙ lt-ltb _ _ below in
        refuses There (λ ss. sym (when_yes _ (eq-eqb _ _ (is-rule x w y c)) (when_yes _ some refl)))

    module _ (absent : lowest (rules_in rs) (is_at rs 1 y) ≡ rules_in rs) {b : Bool} (all : b ≡ all_below (rules_in rs) (has_state rs 1)) where
      none : someIn (is_rule CURRENT x w) (view_rules rs) ≡ false
      none =
          let beyond : length (view_rules rs) ≤ lowest_rule (is_rule CURRENT x w) (view_rules rs) = omega (arith, current, view-length rs) in
          some-lowest (is_rule CURRENT x w) (view_rules rs) ∙ le-ltb _ _ beyond

      -- 17
      pub add-full : b ≡ true → AddFound rs x w (Err NoRules)
      add-full t = refuses NoRules (λ ss. sym (when_yes _ (eq-eqb _ _ (is-rule x w y c)) (when_no _ none (when_yes _ (sym (full_is rs) ∙ sym all ∙ t) refl))))

      module _ (t : b ≡ false) where
        some : all_below (length (view_rules rs)) (λ r. eqb (rule_at (view_rules rs) r).state CURRENT) ≡ false
        some = sym (full_is rs) ∙ sym all ∙ t

        past : (ss : List SetPlace) → add_in_form (with_sets rs ss) x w ≡ add_to (with_sets rs ss) x w
        past ss = sym (when_yes _ (eq-eqb _ _ (is-rule x w y c)) (when_no _ none (when_no _ some refl)))

        number : lowest (rules_in rs) (is_at rs 2 y) ≡ lowest_rule (is_rule WITHDRAWN x w) (view_rules rs)
        number = search_is x w y c rs f 2 (omega arith) refl

        -- a rule that is added at number q
        at : {q : ℕ} → q < rules_in rs → ((ss : List SetPlace) → add_to (with_sets rs ss) x w ≡ outcome 0 q (put_rule (with_sets rs ss) q (placed CURRENT x w)))
            → AddFound rs x w (Ok (Some q, y))
        at {q} l h = record {
          refuses = λ g e. cc;
          adds = λ i z e ss. let (p, o) = same_pair e in let n : q ≡ i = cc in
              past ss ∙ h ss ∙ ap₂ (λ (j : ℕ) (v : RulePlace). outcome 0 j (put_rule (with_sets rs ss) j v)) n (sym (place_is x w y c CURRENT) ∙ ap (place_of CURRENT) o);
          collects = λ z e. let (p, o) = same_pair e in cc;
          inside = λ i z e. let (p, o) = same_pair e in let n : q ≡ i = cc in subst (λ j. j < rules_in rs) n l;
          rule = λ k z e. let (p, o) = same_pair e in subst WellFormed o (rule_well x w y c);
        }

        -- "a withdrawn rule that is equal takes its own number back"
        pub add_back : {q : ℕ} → Lowest (rules_in rs) (is_at rs 2 y) (Some q) → AddFound rs x w (Ok (Some q, y))
        add_back {q} (l, e) =
            let below : lowest_rule (is_rule WITHDRAWN x w) (view_rules rs) < length (view_rules rs) = omega (arith, number, view-length rs) in
            at l (λ ss. sym (when_yes _ (lt-ltb _ _ below) (ap (λ i. outcome 0 i (put_rule (with_sets rs ss) i (placed CURRENT x w))) (e ∙ number))))

        module _ (none_back : Lowest (rules_in rs) (is_at rs 2 y) None) where
          beyond : length (view_rules rs) ≤ lowest_rule (is_rule WITHDRAWN x w) (view_rules rs)
          beyond = omega (arith, number, view-length rs)

          -- "Otherwise the lowest free number; if none is free, collection comes first."
          pub add_free : (o : Option ℕ) → Lowest (rules_in rs) (has_state rs 0) o → AddFound rs x w (Ok (o, y))
          add_free (Some i) (l, h) =
              let free : i ≡ lowest_rule is_free (view_rules rs) = h ∙ free_is rs in
              let below : lowest_rule is_free (view_rules rs) < length (view_rules rs) = omega (arith, view-length rs) in
              at l (λ ss. sym (when_no _ (le-ltb _ _ beyond) (when_yes _ (lt-ltb _ _ below) (ap (λ j. outcome 0 j (put_rule (with_sets rs ss) j (placed CURRENT x w))) free))))
          add_free None h =
              let none_free : length (view_rules rs) ≤ lowest_rule is_free (view_rules rs) = omega (arith, free_is rs, view-length rs) in
              let later = free_after (view_rules rs) states some in
              record {
                refuses = λ g e. cc;
                adds = λ i z e. let (p, o) = same_pair e in cc;
                collects = λ z e ss. let (p, o) = same_pair e in (
                  past ss ∙ sym (when_no _ (le-ltb _ _ beyond) (when_no _ (le-ltb _ _ none_free) (ap (add_later (with_sets rs ss)) (ap (place_of CURRENT) (sym o) ∙ place_is x w y c CURRENT)))),
                  omega (arith, view-length rs),
                );
                inside = λ i z e. let (p, o) = same_pair e in cc;
                rule = λ k z e. let (p, o) = same_pair e in subst WellFormed o (rule_well x w y c);
              }
            where
              states : (r : ℕ) → r < length (view_rules rs) → (rule_at (view_rules rs) r).state ≤ WITHDRAWN
              states r l = let m : r < rules_in rs = omega (arith, view-length rs) in subst (λ p. p.state ≤ WITHDRAWN) (sym (rule_read rs r m)) (f.form r m).states
