-- The form test is the form: on numbers of a machine's size `formed` passes exactly where they hold a table in form. So the form is
-- decided for any numbers. Assumes nothing.
use mathlib.Core.Path.{◌≡◌, refl, sym, subst}
use mathlib.Core.Logic.{◌↔◌, ◌⊎◌, inl, inr}
use mathlib.Core.Bool.{Bool, true, false}
use mathlib.Core.List.{List}
use Prim.Native.Nat.{ℕ, ◌+◌, ◌*◌, ◌/◌, ◌%◌, ◌^◌, ◌≤◌, ◌<◌}
use native.Mathlib.Omega.{arith}
use lib.Dec.{T, ltb, leb}
use lib.ListN.{length, get_or}
use Rattle.laws.specs.Choice.{◌and◌, Tells}
use Rattle.laws.specs.Loops.{all_below}
use Rattle.laws.proofs.Tests.{tests, and_both, all-below}
use Rattle.laws.proofs.Tables.{length_tab}
use Rattle.theory.specs.Form.{RuleInForm, SetInForm}
use Rattle.table.specs.Layout.{Sets, Mem, sets_in, rules_in, rule_seen, set_seen, view_rules, view_sets}
use Rattle.table.specs.Laid.{Sized, LaidRule, LaidSet, Formed}
use Rattle.table.proofs.Read.{rule_read, set_read}
use Rattle.form.specs.Rules.{rule_fits, rules_fit}
use Rattle.form.specs.Masks.{named, Short}
use Rattle.form.specs.Sets.{set_fits}
use Rattle.form.specs.Formed.{sets_fit, formed, Fits}
use Rattle.form.proofs.RuleForm.{rule-form, differ_form}
use Rattle.form.proofs.SetForm.{Passes, set_says, passes-laid, passes-form, form-passes}
use Rattle.form.proofs.KernelForm.{start-form, kernels-form}

-- the rules' clauses, which the tests of sets rely on
rules-form : (rs : List ℕ) → T (rules_fit rs) ↔ ((r : ℕ) → r < rules_in rs → LaidRule rs r × RuleInForm (rule_seen rs r))
unfolding rules_fit
rules-form rs = (
  λ t r l. (rule-form rs r).0 ((all-below (rules_in rs) (rule_fits rs)).0 t r l),
  λ h. (all-below (rules_in rs) (rule_fits rs)).1 (λ r l. (rule-form rs r).1 (h r l)),
)

pub rules-short : (rs : List ℕ) → T (rules_fit rs) → Short rs
rules-short rs t r l = ((rules-form rs).0 t r l).0.short

module _ (m : Mem) (sized : Sized m.rules m.sets) (fits : Fits m) where
  abbrev rs : List ℕ
  rs = m.rules

  abbrev x : Sets
  x = m.sets

  abbrev n : ℕ
  n = rules_in m.rules

  abbrev S : ℕ
  S = sets_in m.rules

  rule_count : length (view_rules m.rules) ≡ rules_in m.rules
  rule_count = length_tab (rules_in m.rules) (rule_seen m.rules)

  set_count : length (view_sets S n x) ≡ sets_in m.rules
  set_count = length_tab S (set_seen n x)

  -- each clause of the test in turn
  to : T (formed m) → Formed m
  unfolding formed sets_fit
  to t =
      let (a, t₁) = (and_both _ _).0 t in
      let (b, t₂) = (and_both _ _).0 t₁ in
      let (c, t₃) = (and_both _ _).0 t₂ in
      let (d, e) = (and_both _ _).0 t₃ in
      let rules = (rules-form rs).0 a in
      let laid : (r : ℕ) → r < n → LaidRule rs r = λ r l. (rules r l).0 in
      let form : (r : ℕ) → r < n → RuleInForm (rule_seen rs r) = λ r l. (rules r l).1 in
      let few = sized.few_rules in
      let pass : (s : ℕ) (l : s < S) → Passes rs x few fits laid s l =
      λ s l. (set_says rs x few fits laid s l).0 ((all-below S (set_fits S x (named rs 2) (named rs 1))).0 d s l) in
      let each : (s : ℕ) → s < S → LaidSet n x s = λ s l. passes-laid rs x few fits laid s l (pass s l) in
      let (used, kernel) = (start-form rs x few fits each sized.some_sets).0 c in
      record {
        laid = record { sized = sized; each_rule = laid; each_set = each };
        form = record {
          some_sets = subst (λ k. 1 ≤ k) (sym set_count) sized.some_sets;
          few_sets = subst (λ k. k ≤ 255) (sym set_count) sized.few_sets;
          some_rules = subst (λ k. 1 ≤ k) (sym rule_count) sized.some_rules;
          few_rules = subst (λ k. k ≤ 128) (sym rule_count) sized.few_rules;
          rules = λ r l. let k : r < n = omega (arith, rule_count) in subst RuleInForm (sym (rule_read rs r k)) (form r k);
          start_used = used;
          kernel_of_start = kernel;
          sets = λ s l. let k : s < S = omega (arith, set_count) in
              subst (SetInForm (view_rules rs) (view_sets S n x)) (sym (set_read S n x s k)) (passes-form rs x few fits laid s k (pass s k));
          no_two_rules = (differ_form rs laid form).0 b;
          no_two_kernels = (kernels-form rs x few fits each).0 e;
        };
      }

  from : Formed m → T (formed m)
  unfolding formed sets_fit
  from f =
      let laid = f.laid.each_rule in
      let each = f.laid.each_set in
      let few = sized.few_rules in
      let form : (r : ℕ) → r < n → RuleInForm (rule_seen rs r) =
      λ r l. subst RuleInForm (rule_read rs r l) (f.form.rules r (omega (arith, rule_count))) in
      let set-form : (s : ℕ) → s < S → SetInForm (view_rules rs) (view_sets S n x) (set_seen n x s) =
      λ s l. subst (SetInForm (view_rules rs) (view_sets S n x)) (set_read S n x s l) (f.form.sets s (omega (arith, set_count))) in
      (and_both _ _).1 (
        (rules-form rs).1 (λ r l. (laid r l, form r l)),
        (and_both _ _).1 (
          (differ_form rs laid form).1 f.form.no_two_rules,
          (and_both _ _).1 (
            (start-form rs x few fits each sized.some_sets).1 (f.form.start_used, f.form.kernel_of_start),
            (and_both _ _).1 (
              (all-below S (set_fits S x (named rs 2) (named rs 1))).1
                  (λ s l. (set_says rs x few fits laid s l).1 (form-passes rs x few fits laid each set-form s l)),
              (kernels-form rs x few fits each).1 f.form.no_two_kernels,
            ),
          ),
        ),
      )

  pub formed-is : T (formed m) ↔ Formed m
  formed-is = (to, from)

  -- what the test answers
  pub tells_formed : {b : Bool} → b ≡ formed m → Tells b (Formed m)
  tells_formed {b} e = go b e
    where
      go : (b : Bool) → b ≡ formed m → Tells b (Formed m)
      go true e = formed-is.0 (subst T e tt)
      go false e = λ f. subst T (sym e) (formed-is.1 f)

-- ---- the code's answer: the sizes first, and where they are in range, the tests of `formed`

pub tells_whole : (m : Mem) (roomy : Bool) {r : Bool} → Tells roomy (Sized m.rules m.sets) → ((k : ℕ) → get_or m.sets.words k 0 < 2 ^ 64)
    → (roomy ≡ true → r ≡ formed m) → (roomy ≡ false → r ≡ false) → Tells r (Formed m)
tells_whole m true t f on off = tells_formed m t (λ k l. f k) (on refl)
tells_whole m false t f on off = subst (λ b. Tells b (Formed m)) (sym (off refl)) (λ z. t z.laid.sized)

-- ---- for any numbers

-- the sizes, and the words of the sets, as a test
measured : Mem → Bool
measured m =
    leb 1 (sets_in m.rules) and leb (sets_in m.rules) 255 and leb 1 (rules_in m.rules) and leb (rules_in m.rules) 128
    and leb (2 + rules_in m.rules * 10) (length m.rules) and leb (sets_in m.rules * 128) (length m.sets.cells)
    and leb (sets_in m.rules * 18) (length m.sets.words) and all_below (sets_in m.rules * 18) (λ k. ltb (get_or m.sets.words k 0) (2 ^ 64))

measured_is : (m : Mem) → T (measured m) ↔ (Sized m.rules m.sets × Fits m)
unfolding measured
measured_is m = (
  λ t. let (a, (b, (c, (d, (e, (f, (g, h))))))) = simp tests at t in
      (record { some_sets = a; few_sets = b; some_rules = c; few_rules = d; rules = e; cells = f; words = g }, h),
  λ (z, h). simp tests (z.some_sets, (z.few_sets, (z.some_rules, (z.few_rules, (z.rules, (z.cells, (z.words, h))))))),
)

formed-fits : (m : Mem) → Formed m → Fits m
formed-fits m f k l =
    let e : k / 18 * 18 + k % 18 ≡ k = omega arith in
    subst (λ j. get_or m.sets.words j 0 < 2 ^ 64) e ((f.laid.each_set (k / 18) (omega arith)).words (k % 18) (omega arith))

pub formed_dec : (m : Mem) → Formed m ⊎ (Formed m → ⊥)
formed_dec m = go (measured m) (measured_is m).0 (λ f. (measured_is m).1 (f.laid.sized, formed-fits m f))
  where
    whole : Sized m.rules m.sets → Fits m → (b : Bool) → b ≡ formed m → Formed m ⊎ (Formed m → ⊥)
    whole z h true e = inl (tells_formed m z h e)
    whole z h false e = inr (tells_formed m z h e)

    go : (b : Bool) → (T b → Sized m.rules m.sets × Fits m) → (Formed m → T b) → Formed m ⊎ (Formed m → ⊥)
    go true h g = let (z, w) = h tt in whole z w (formed m) refl
    go false h g = inr g
