-- The tests of rules are the form's clauses on rules. Assumes nothing.
use mathlib.Core.Path.{◌≡◌, refl, sym, ap, subst, ◌∙◌}
use mathlib.Core.Logic.{◌↔◌, ◌≢◌}
use mathlib.Core.List.{List, []}
use Prim.Native.Nat.{ℕ, zero, suc, ◌+◌, ◌≤◌, ◌<◌}
use native.Mathlib.Decide.{ℕ_discrete, dec_lt}
use native.Mathlib.Omega.{arith}
use lib.Dec.{T, eqb}
use lib.ListN.{length, get_or}
use Rattle.laws.proofs.Tests.{tests, eqb_iff, all-below, not_iff, one_of, where_fails}
use Rattle.laws.proofs.Tables.{length_tab}
use Rattle.laws.proofs.Chosen.{tab_cong}
use Rattle.symbols.specs.Symbol.{all_on_right}
use Rattle.symbols.specs.Rule.{symbol, place, WellFormed, same_rule, right_side, rule_of}
use Rattle.symbols.specs.Check.{no_rule}
use Rattle.symbols.proofs.Rules.{same_iff, well_formed_iff, right_allowed, same_sides_iff, seven_of, place_of}
use Rattle.theory.specs.Form.{Named, RuleInForm}
use Rattle.theory.specs.Table.{free_rule, rule_at}
use Rattle.theory.proofs.Items.{named-inside}
use Rattle.table.specs.Layout.{rules_in, rule_number, rule_seen, view_rules}
use Rattle.table.specs.Write.{rule_in}
use Rattle.table.specs.Laid.{LaidRule}
use Rattle.table.proofs.Read.{rule_read, right-length}
use Rattle.table.proofs.Formed.{formed_well}
use Rattle.table.proofs.RuleNumbers.{in_place, in_seven, in_left, in_right, zeros-laid, zeros-seen}
use Rattle.form.specs.Rules.{rule_fits, differs, rule_alone, rules_differ}

-- ---- one rule

module _ (rs : List ℕ) (r : ℕ) where
  -- no rule is ten zeros
  free_zeros : rule_number rs r 0 ≡ 0 → rule_in rs r ≡ no_rule → (k : ℕ) → k < 10 → rule_number rs r k ≡ 0
  unfolding rule_in rule_of
  free_zeros e q zero l = e
  free_zeros e q (suc zero) l = ap (λ x. x.left.0) q
  free_zeros e q (suc (suc zero)) l = ap (λ x. x.len) q
  free_zeros e q (suc (suc (suc k))) l =
      let z : 3 + k ≡ suc (suc (suc k)) = omega arith in
      let m : k < 7 = omega arith in
      subst (λ j. rule_number rs r j ≡ 0) z (sym (in_place rs r k m) ∙ ap (λ x. place x k) q ∙ place_of 0 [] k m)

  zeros_free : ((k : ℕ) → k < 10 → rule_number rs r k ≡ 0) → rule_in rs r ≡ no_rule
  unfolding rule_in rule_of
  zeros_free h =
      let a = h 1 (omega arith) in
      let b = h 2 (omega arith) in
      let w = tab_cong 7 (λ d. symbol (rule_number rs r (3 + d))) (λ d. symbol (get_or [] d 0)) (λ d l. ap symbol (h (3 + d) (omega arith))) in
      λ i. record { left = symbol (a i); len = b i; right = w i }

  -- a record that is a rule is a rule that is laid out and in form
  well_laid : rule_number rs r 0 ≢ 0 → rule_number rs r 0 ≤ 2 → WellFormed (rule_in rs r) → LaidRule rs r
  unfolding rule_in
  well_laid d l w = record {
    state = l;
    left = λ _. (w.left_not_zero, w.left_symbol);
    short = w.short;
    beyond = λ k p q. sym (in_place rs r k q) ∙ w.beyond k p q;
    unused = λ e. absurd (d e);
  }

  well_form : rule_number rs r 0 ≢ 0 → rule_number rs r 0 ≤ 2 → WellFormed (rule_in rs r) → RuleInForm (rule_seen rs r)
  unfolding rule_in rule_seen
  well_form d l w = record {
    states = l;
    left = λ _. (w.left_not_zero, w.left_symbol);
    short = λ _. subst (λ n. n ≤ 7) (sym (right-length rs r)) w.short;
    right = λ _. subst (λ v. T (all_on_right v)) (in_right rs r w.short) (right_allowed (rule_in rs r) w);
    unused = λ e. absurd (d e);
  }

  free_form : rule_seen rs r ≡ free_rule → RuleInForm (rule_seen rs r)
  free_form e = subst RuleInForm (sym e) (record {
    states = omega arith;
    left = λ d. absurd (d refl);
    short = λ d. absurd (d refl);
    right = λ d. absurd (d refl);
    unused = λ _. refl;
  })

  pub rule-form : T (rule_fits rs r) ↔ (LaidRule rs r × RuleInForm (rule_seen rs r))
  unfolding rule_fits
  rule-form = (to, from)
    where
      to : T (rule_fits rs r) → LaidRule rs r × RuleInForm (rule_seen rs r)
      to t = let (free, used) = simp (one_of, tests) at t in
          elim (ℕ_discrete (rule_number rs r 0) 0) [
            | yes e ↦
                let z : (k : ℕ) → k < 10 → rule_number rs r k ≡ 0 = free_zeros e ((same_iff (rule_in rs r) no_rule (in_seven rs r) (seven_of 0 [])).0 (free e)) in
                (zeros-laid rs r z, free_form (zeros-seen rs r z))
            | no d ↦
                let (l, w) = used d in
                let v = (well_formed_iff (rule_in rs r) (in_seven rs r)).0 w in
                (well_laid d l v, well_form d l v)
          ]

      from : LaidRule rs r × RuleInForm (rule_seen rs r) → T (rule_fits rs r)
      from (l, f) = simp (one_of, tests) (
        λ e. (same_iff (rule_in rs r) no_rule (in_seven rs r) (seven_of 0 [])).1 (zeros_free (l.unused e)),
        λ d. (l.state, (well_formed_iff (rule_in rs r) (in_seven rs r)).1 (formed_well rs r d l f)),
      )

-- ---- what the model reads of a rule that is laid out

module _ (rs : List ℕ) (r : ℕ) (inside : r < rules_in rs) where
  pub at-state : (rule_at (view_rules rs) r).state ≡ rule_number rs r 0
  unfolding rule_seen
  at-state = ap (λ p. p.state) (rule_read rs r inside)

  pub at_left : (rule_at (view_rules rs) r).left ≡ rule_number rs r 1
  unfolding rule_seen
  at_left = ap (λ p. p.left) (rule_read rs r inside)

  pub at_length : length (rule_at (view_rules rs) r).right ≡ rule_number rs r 2
  at_length = ap (λ p. length p.right) (rule_read rs r inside) ∙ right-length rs r

pub rule-inside : (rs : List ℕ) (r : ℕ) → Named (view_rules rs) r → r < rules_in rs
rule-inside rs r d = omega (arith, named-inside (view_rules rs) r d, length_tab (rules_in rs) (rule_seen rs))

-- ---- no two equal

abbrev pub NoTwoRules : List ℕ → Type 0
NoTwoRules rs = (q r : ℕ) → Named (view_rules rs) q → Named (view_rules rs) r → (rule_at (view_rules rs) q).left ≡ (rule_at (view_rules rs) r).left
    → (rule_at (view_rules rs) q).right ≡ (rule_at (view_rules rs) r).right → q ≡ r

module _ (rs : List ℕ) (laid : (r : ℕ) → r < rules_in rs → LaidRule rs r) (form : (r : ℕ) → r < rules_in rs → RuleInForm (rule_seen rs r)) where
  named-state : (r : ℕ) → Named (view_rules rs) r → rule_number rs r 0 ≢ 0
  named-state r d e = d (at-state rs r (rule-inside rs r d) ∙ e)

  -- rules with equal sides are equal records
  same_record : (q r : ℕ) → Named (view_rules rs) q → Named (view_rules rs) r → (rule_at (view_rules rs) q).left ≡ (rule_at (view_rules rs) r).left
      → (rule_at (view_rules rs) q).right ≡ (rule_at (view_rules rs) r).right → T (same_rule (rule_in rs q) (rule_in rs r))
  same_record q r dq dr a b =
      let p = rule-inside rs q dq in
      let o = rule-inside rs r dr in
      let w = formed_well rs q (named-state q dq) (laid q p) (form q p) in
      let v = formed_well rs r (named-state r dr) (laid r o) (form r o) in
      (same_sides_iff (rule_in rs q) (rule_in rs r) w v).1 (
        in_left rs q ∙ ap (λ p. p.left) (sym (rule_read rs q p)) ∙ a ∙ ap (λ p. p.left) (rule_read rs r o) ∙ sym (in_left rs r),
        in_right rs q (laid q p).short ∙ ap (λ p. p.right) (sym (rule_read rs q p)) ∙ b
            ∙ ap (λ p. p.right) (rule_read rs r o) ∙ sym (in_right rs r (laid r o).short),
      )

  -- the test of a pair
  apart : (q r : ℕ) → T (rules_differ rs) → Named (view_rules rs) r → q < r → T (same_rule (rule_in rs q) (rule_in rs r)) → ⊥
  unfolding rules_differ rule_alone differs
  apart q r t d l =
      let u = (all-below (rules_in rs) (rule_alone rs)).0 t r (rule-inside rs r d) in
      let v = (where_fails (eqb (rule_number rs r 0) 0) _).0 u (λ z. named-state r d ((eqb_iff _ _).0 z)) in
      (not_iff (same_rule (rule_in rs q) (rule_in rs r))).0 ((all-below r (differs rs r)).0 v q l)

  state-named : (r : ℕ) → r < rules_in rs → rule_number rs r 0 ≢ 0 → Named (view_rules rs) r
  state-named r l d z = d (sym (at-state rs r l) ∙ z)

  -- a record that stands twice is a rule that stands twice: a free one's left symbol is zero
  clash : (q r : ℕ) → NoTwoRules rs → r < rules_in rs → q < r → rule_number rs r 0 ≢ 0 → T (same_rule (rule_in rs q) (rule_in rs r)) → ⊥
  unfolding rule_in
  clash q r h l m d s =
      let k : q < rules_in rs = omega arith in
      let e : rule_in rs q ≡ rule_in rs r = (same_iff (rule_in rs q) (rule_in rs r) (in_seven rs q) (in_seven rs r)).0 s in
      let a : rule_number rs q 1 ≡ rule_number rs r 1 = ap (λ x. x.left.0) e in
      let b : (rule_seen rs q).right ≡ (rule_seen rs r).right = sym (in_right rs q (laid q k).short) ∙ ap right_side e ∙ in_right rs r (laid r l).short in
      elim (ℕ_discrete (rule_number rs q 0) 0) [
        | yes z ↦ let (p, o) = (laid r l).left d in omega (arith, (laid q k).unused z 1 (omega arith))
        | no c ↦
            let z : q ≡ r = h q r (state-named q k c) (state-named r l d) (at_left rs q k ∙ a ∙ sym (at_left rs r l))
            (ap (λ p. p.right) (rule_read rs q k) ∙ b ∙ sym (ap (λ p. p.right) (rule_read rs r l))) in
            omega arith
      ]

  alone : (r : ℕ) → r < rules_in rs → NoTwoRules rs → T (rule_alone rs r)
  unfolding rule_alone differs
  alone r l h =
      (where_fails (eqb (rule_number rs r 0) 0) _).1
      (λ n. (all-below r (differs rs r)).1 (λ q m. (not_iff (same_rule (rule_in rs q) (rule_in rs r))).1 (clash q r h l m (λ e. n ((eqb_iff _ _).1 e)))))

  pub differ_form : T (rules_differ rs) ↔ NoTwoRules rs
  unfolding rules_differ
  differ_form = (to, λ h. (all-below (rules_in rs) (rule_alone rs)).1 (λ r l. alone r l h))
    where
      to : T (rules_differ rs) → NoTwoRules rs
      to t q r dq dr a b = elim (ℕ_discrete q r) [
        | yes e ↦ e
        | no n ↦ elim (dec_lt q r) [
          | yes l ↦ absurd (apart q r t dr l (same_record q r dq dr a b))
          | no g ↦ absurd (apart r q t dq (omega arith) (same_record r q dr dq (sym a) (sym b)))
        ]
      ]
