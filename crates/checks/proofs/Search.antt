-- The code's searches over the rules are the model's. Assumes nothing.
use mathlib.Core.Bool.{Bool}
use mathlib.Core.List.{List}
use mathlib.Core.Logic.{⊎_elim}
use mathlib.Core.Path.{◌≡◌, refl, sym, ap, subst, ◌∙◌}
use Prim.Native.Nat.{ℕ, ◌≤◌, ◌<◌, zero-le}
use native.Mathlib.Omega.{arith}
use lib.Dec.{T, eqb, ltb}
use lib.ListN.{length}
use Rattle.laws.specs.Loops.{all_below}
use Rattle.laws.specs.Lists.{someIn, up_from}
use Rattle.laws.proofs.Tests.{and_both, eqb_iff, ltb_iff}
use Rattle.laws.proofs.Chosen.{iff_same, first_cong}
use Rattle.laws.proofs.Lists.{some_in, first_in, in_up}
use Rattle.symbols.specs.Rule.{WellFormed, same_rule, right_side}
use Rattle.symbols.specs.declared.rule.Rule.{Rule}
use Rattle.symbols.proofs.Rules.{same_sides_iff}
use Rattle.theory.specs.Table.{CURRENT, RulePlace, free_rule, rule_at}
use Rattle.theory.specs.Calls.{is_rule, is_free, lowest_rule}
use Rattle.theory.proofs.Sets.{index_of, element_at}
use Rattle.theory.proofs.Accepted.{is-rule}
use Rattle.table.specs.Layout.{rules_in, rule_number, rule_seen, view_rules}
use Rattle.table.specs.Laid.{FormedRules}
use Rattle.table.specs.Write.{rule_in}
use Rattle.table.proofs.Read.{rule_read, view-length}
use Rattle.table.proofs.RuleNumbers.{in_left, in_right}
use Rattle.table.proofs.Formed.{formed_well}
use Rattle.laws.proofs.Loops.{all_cong}
use Rattle.checks.specs.Find.{has_state, is_at, lowest}

-- a search finds something exactly if there is something
pub some-lowest : (f : RulePlace → Bool) (rs : List RulePlace) → someIn f rs ≡ ltb (lowest_rule f rs) (length rs)
some-lowest f rs =
    iff_same (someIn f rs) (ltb (lowest_rule f rs) (length rs))
    (λ t. (ltb_iff (lowest_rule f rs) (length rs)).1 (
    let (p, m, h) = (some_in f rs).0 t in
    let (r, l, e) = index_of free_rule rs m in
    ⊎_elim (λ (n, q). let z = ((in_up 0 (length rs)).0 n).1 in omega arith)
    (λ (q, none). absurd (none r ((in_up 0 (length rs)).1 (zero-le, omega arith)) (subst (λ p. T (f p)) e h)))
    (first_in (λ r. f (rule_at rs r)) (length rs) (up_from 0 (length rs)))))
    (λ t.
    let l = (ltb_iff (lowest_rule f rs) (length rs)).0 t in
    ⊎_elim (λ (n, q). (some_in f rs).1 (rule_at rs (lowest_rule f rs), element_at free_rule rs (lowest_rule f rs) l, q))
    (λ (q, none). absurd (omega arith))
    (first_in (λ r. f (rule_at rs r)) (length rs) (up_from 0 (length rs))))

module _ (rs : List ℕ) where
  state_read : (state r : ℕ) → r < rules_in rs → has_state rs state r ≡ eqb (rule_at (view_rules rs) r).state state
  unfolding has_state rule_seen
  state_read state r l = ap (λ (p : RulePlace). eqb p.state state) (sym (rule_read rs r l))

  pub free_is : lowest (rules_in rs) (has_state rs 0) ≡ lowest_rule is_free (view_rules rs)
  free_is = first_cong (has_state rs 0) (λ r. is_free (rule_at (view_rules rs) r)) (rules_in rs) (up_from 0 (rules_in rs)) (λ r m. let (p, q) = (in_up 0 (rules_in rs)).0 m in state_read 0 r (omega arith)) ∙ ap (λ n. lowest n (λ r. is_free (rule_at (view_rules rs) r))) (sym (view-length rs))

  pub full_is : all_below (rules_in rs) (has_state rs 1) ≡ all_below (length (view_rules rs)) (λ r. eqb (rule_at (view_rules rs) r).state CURRENT)
  full_is =
      all_cong (has_state rs 1) (λ r. eqb (rule_at (view_rules rs) r).state CURRENT) (rules_in rs) (state_read 1)
      ∙ ap (λ n. all_below n (λ r. eqb (rule_at (view_rules rs) r).state CURRENT)) (sym (view-length rs))

  module _ (f : FormedRules rs) (state : ℕ) (used : 1 ≤ state) (x : Rule) (well : WellFormed x) where
    at_seen : (r : ℕ) → r < rules_in rs → is_at rs state x r ≡ is_rule state x.left.0 (right_side x) (rule_seen rs r)
    unfolding is_at has_state
    at_seen r l =
        iff_same _ _
        (λ t.
        let (a, b) = (and_both (eqb (rule_number rs r 0) state) (same_rule (rule_in rs r) x)).0 t in
        let e = (eqb_iff (rule_number rs r 0) state).0 a in
        let (p, q) = (same_sides_iff (rule_in rs r) x (here e) well).0 b in
        (is-rule state x.left.0 (right_side x) (rule_seen rs r)).1 (seen-state ∙ e, sym (in_left rs r) ∙ p, sym (in_right rs r short) ∙ q))
        (λ t.
        let (e, p, q) = (is-rule state x.left.0 (right_side x) (rule_seen rs r)).0 t in
        let z : rule_number rs r 0 ≡ state = sym seen-state ∙ e in
        (and_both (eqb (rule_number rs r 0) state) (same_rule (rule_in rs r) x)).1
        ((eqb_iff (rule_number rs r 0) state).1 z, (same_sides_iff (rule_in rs r) x (here z) well).1 (in_left rs r ∙ p, in_right rs r short ∙ q)))
      where
        short : rule_number rs r 2 ≤ 7
        short = (f.laid.each_rule r l).short

        here : rule_number rs r 0 ≡ state → WellFormed (rule_in rs r)
        here e = formed_well rs r (λ z. omega arith) (f.laid.each_rule r l) (f.form r l)

        seen-state : (rule_seen rs r).state ≡ rule_number rs r 0
        seen-state = unfold rule_seen in refl

    pub found-is : lowest (rules_in rs) (is_at rs state x) ≡ lowest_rule (is_rule state x.left.0 (right_side x)) (view_rules rs)
    found-is =
        let g : ℕ → Bool = λ r. is_rule state x.left.0 (right_side x) (rule_at (view_rules rs) r) in
        first_cong (is_at rs state x) g (rules_in rs) (up_from 0 (rules_in rs))
        (λ r m. let (p, q) = (in_up 0 (rules_in rs)).0 m in let l : r < rules_in rs = omega arith in at_seen r l ∙ ap (is_rule state x.left.0 (right_side x)) (sym (rule_read rs r l)))
        ∙ ap (λ n. lowest n g) (sym (view-length rs))
