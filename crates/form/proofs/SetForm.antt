-- The tests of sets are the form's clauses on sets. Assumes nothing.
use mathlib.Core.Path.{◌≡◌, refl, sym, ap, subst, ◌∙◌}
use mathlib.Core.Logic.{◌↔◌, ◌≢◌, ⊎_elim}
use mathlib.Core.Bool.{Bool, false}
use mathlib.Core.List.{List, []}
use Prim.Native.Nat.{ℕ, zero, suc, ◌+◌, ◌-◌, ◌*◌, ◌/◌, ◌%◌, ◌^◌, ◌≤◌, ◌<◌}
use native.Mathlib.Decide.{dec_lt}
use native.Mathlib.Omega.{arith}
use lib.Dec.{T, eqb, ltb}
use lib.ListN.{get_or, get_or-eq_default}
use Rattle.laws.specs.Lists.{someIn, keep, up_from}
use Rattle.laws.proofs.Tests.{and_both, ltb_iff, leb_iff, eqb_iff, one_of, where_passes}
use Rattle.laws.proofs.Tables.{length_tab}
use Rattle.laws.proofs.Chosen.{iff_same}
use Rattle.kernels.specs.Kernel.{item, has, within}
use Rattle.kernels.proofs.Kernel.{has-cases, has_on, empty_iff}
use Rattle.kernels.proofs.Subset.{Subset, WordsFit, within_iff}
use Rattle.theory.specs.Table.{FREE, EXPANDED, free_set, set_at, has_item, all_items, item as item_of}
use Rattle.theory.specs.Form.{Named, InUse, Current, NamesCurrent, SetInForm}
use Rattle.table.specs.Layout.{Sets, sets_in, rules_in, rule_number, cell, bit_of, state_of, kernel_seen, reductions_seen, set_seen, rule_seen, view_rules, view_sets}
use Rattle.table.specs.Laid.{LaidRule, LaidSet}
use Rattle.table.proofs.Once.{in_transitions}
use Rattle.table.proofs.Read.{set_read, in_seen, state-unexpanded, reductions_read}
use Rattle.table.proofs.Rows.{kernel-none, transitions-none, reductions-none}
use Rattle.form.specs.Masks.{named, Short}
use Rattle.form.specs.Sets.{bare_fits, reductions_fit, targets_fit, expanded_fits, set_fits}
use Rattle.form.proofs.RuleForm.{at-state, at_length, rule-inside}
use Rattle.form.proofs.MaskBits.{Stated, named_mask, named-item, named_reduction}
use Rattle.form.proofs.Ascending.{kernel_ascends, reductions_ascend, symbols_ascend}
use Rattle.form.proofs.SetTests.{Led, targets_say, Bare, bare-says, reductions-idle, idle-low, idle-high}

-- ---- a mark's state

state_free : (m : ℕ) → (state_of m ≡ FREE) ↔ (m ≡ 0)
state_free zero = (λ e. refl, λ e. refl)
state_free (suc zero) = (λ e. absurd (omega arith), λ e. absurd (omega arith))
state_free (suc (suc m)) = (λ e. absurd (omega arith), λ e. absurd (omega arith))

state_le : (m : ℕ) → state_of m ≤ EXPANDED
state_le zero = omega arith
state_le (suc zero) = omega arith
state_le (suc (suc m)) = omega arith

accepts_not : (m : ℕ) → m ≢ 3 → eqb m 3 ≡ false
accepts_not m d = iff_same (eqb m 3) false (λ t. d ((eqb_iff m 3).0 t)) (λ t. absurd t)

-- ---- sets in use

module _ (S n : ℕ) (x : Sets) where
  pub used-is : (t : ℕ) → InUse (view_sets S n x) t ↔ ((t < S) × (cell x t 0 ≢ 0))
  used-is t = (
    λ d. elim (dec_lt t S) [
      | yes l ↦ (l, λ e. d (ap (λ p. p.state) (set_read S n x t l) ∙ (state_free (cell x t 0)).1 e))
      | no g ↦ absurd (d (ap (λ p. p.state) (get_or-eq_default (view_sets S n x) free_set {n = t} (omega (arith, length_tab S (set_seen n x))))))
    ],
    λ (l, d) e. d ((state_free (cell x t 0)).0 (sym (ap (λ p. p.state) (set_read S n x t l)) ∙ e)),
  )

-- ---- sets over rules that are laid out

module _ (rs : List ℕ) (x : Sets) (few : rules_in rs ≤ 128) (fit : (k : ℕ) → k < sets_in rs * 18 → get_or x.words k 0 < 2 ^ 64)
    (laid : (r : ℕ) → r < rules_in rs → LaidRule rs r) where
  short : Short rs
  short r l = (laid r l).short

  -- ---- what the masks let stand

  stated_named : {r : ℕ} → Stated rs 2 r → Named (view_rules rs) r
  stated_named {r} s e = let u = s.used in let z : rule_number rs r 0 ≡ 0 = sym (at-state rs r s.inside) ∙ e in omega arith

  named_stated : {r : ℕ} → Named (view_rules rs) r → Stated rs 2 r
  named_stated {r} d =
      let l = rule-inside rs r d in
      let e : rule_number rs r 0 ≢ 0 = λ z. d (at-state rs r l ∙ z) in
      record { inside = l; used = omega arith; most = (laid r l).state }

  stated_current : {r : ℕ} → Stated rs 1 r → Current (view_rules rs) r
  stated_current {r} s = let u = s.used in let v = s.most in let e : rule_number rs r 0 ≡ 1 = omega arith in at-state rs r s.inside ∙ e

  current_stated : {r : ℕ} → Current (view_rules rs) r → Stated rs 1 r
  current_stated {r} c =
      let l = rule-inside rs r (λ z. omega arith) in
      let e : rule_number rs r 0 ≡ 1 = sym (at-state rs r l) ∙ c in
      record { inside = l; used = omega arith; most = omega arith }

  module _ (t : ℕ) (last : ℕ) (sub : Subset x.words (t * 18) (named rs last) 0 16) where
    item-stands : (r d : ℕ) → r < 128 → d < 8 → bit_of x t (item r d) ≡ 1 → Stated rs last r × (d ≤ rule_number rs r 2)
    item-stands r d p q e = (named-item rs few short last r d p q).0 (sub (item r d) (omega arith) e)

  -- a kernel that stands in the mask of the current rules names them only
  kernel-current : (t : ℕ) → Subset x.words (t * 18) (named rs 1) 0 16 → NamesCurrent (view_rules rs) (kernel_seen (rules_in rs) x.words (t * 18))
  kernel-current t sub i m =
      let ((p, q), e) = (in_seen (rules_in rs) x.words (t * 18) i.rule i.dot).0 m in
      stated_current (item-stands t 1 sub i.rule i.dot (omega arith) q e).0

  -- and one that names them only stands there, if its dots are within length
  current-kernel : (t : ℕ) → ((r d : ℕ) → r < 128 → d < 8 → bit_of x t (item r d) ≡ 1 → (r < rules_in rs) × (d ≤ rule_number rs r 2))
      → NamesCurrent (view_rules rs) (kernel_seen (rules_in rs) x.words (t * 18)) → Subset x.words (t * 18) (named rs 1) 0 16
  current-kernel t within-length names k l e =
      let z : item (k / 8) (k % 8) ≡ k = omega arith in
      let b : bit_of x t (item (k / 8) (k % 8)) ≡ 1 = ap (bit_of x t) z ∙ e in
      let (p, q) = within-length (k / 8) (k % 8) (omega arith) (omega arith) b in
      let c = names (item_of (k / 8) (k % 8)) ((in_seen (rules_in rs) x.words (t * 18) (k / 8) (k % 8)).1 ((p, omega arith), b)) in
      subst (λ j. has (named rs 1) 0 j ≡ 1) z ((named-item rs few short 1 (k / 8) (k % 8) (omega arith) (omega arith)).1 (current_stated c, q))

  -- ---- the tests by words, bit by bit

  mask_fit : (last at n : ℕ) → WordsFit (named rs last) at n
  mask_fit last at n k l = (named_mask rs few short last).fit (at + k)

  all-within : (s : ℕ) → s < sets_in rs → T (within x.words (s * 18) (named rs 2) 0 18) ↔ Subset x.words (s * 18) (named rs 2) 0 18
  all-within s l = within_iff x.words (s * 18) (named rs 2) 0 18 (λ k h. fit (s * 18 + k) (omega arith)) (mask_fit 2 0 18)

  kernel-within : (s : ℕ) → s < sets_in rs → T (within x.words (s * 18) (named rs 1) 0 16) ↔ Subset x.words (s * 18) (named rs 1) 0 16
  kernel-within s l = within_iff x.words (s * 18) (named rs 1) 0 16 (λ k h. fit (s * 18 + k) (omega arith)) (mask_fit 1 0 16)

  reductions-within : (s : ℕ) → s < sets_in rs → T (within x.words (s * 18 + 16) (named rs 1) 16 2)
      ↔ ((r : ℕ) → r < 128 → bit_of x s (1024 + r) ≡ 1 → has (named rs 1) 0 (1024 + r) ≡ 1)
  reductions-within s l =
      let i = within_iff x.words (s * 18 + 16) (named rs 1) 16 2 (λ k h. fit (s * 18 + 16 + k) (omega arith)) (mask_fit 1 16 2) in (
        λ t r h e. sym (has_on (named rs 1) 0 16 r) ∙ i.0 t r (omega arith) (has_on x.words (s * 18) 16 r ∙ e),
        λ h. i.1 (λ k p e. has_on (named rs 1) 0 16 k ∙ h k (omega arith) (sym (has_on x.words (s * 18) 16 k) ∙ e)),
      )

  -- ---- a set that passes is laid out and in form

  module _ (s : ℕ) (inside : s < sets_in rs) where
    abbrev only : Bool
    only = within x.words (s * 18) (named rs 1) 0 16

    pub record Passes : Type 0 where
      pub mark : cell x s 0 ≤ 3
      pub stands : Subset x.words (s * 18) (named rs 2) 0 18
      pub bare : cell x s 0 < 2 → Bare x s
      pub reduces : (cell x s 0 < 2 → ⊥) → T only → (r : ℕ) → r < 128 → bit_of x s (1024 + r) ≡ 1 → has (named rs 1) 0 (1024 + r) ≡ 1
      pub leads : (cell x s 0 < 2 → ⊥) → (k : ℕ) → 1 ≤ k → k < 128 → cell x s k ≢ 0 → Led (sets_in rs) x (named rs 1) only (cell x s k)

    pub set_says : T (set_fits (sets_in rs) x (named rs 2) (named rs 1) s) ↔ Passes
    unfolding set_fits expanded_fits reductions_fit
    set_says = (
      λ t.
          let (a, p) = (and_both _ _).0 t in
          let (b, q) = (and_both _ _).0 p in
          let (c, d) = (one_of (ltb (cell x s 0) 2) (bare_fits x s) (expanded_fits (sets_in rs) x (named rs 1) s)).0 q in
          let e : (cell x s 0 < 2 → ⊥) → T (reductions_fit x.words (named rs 1) only s) × T (targets_fit (sets_in rs) x (named rs 1) only s) =
          λ n. (and_both _ _).0 (d (λ z. n ((ltb_iff _ _).0 z))) in
          record {
            mark = (leb_iff _ _).0 a;
            stands = (all-within s inside).0 b;
            bare = λ l. (bare-says x s).0 (c ((ltb_iff _ _).1 l));
            reduces = λ n o. (reductions-within s inside).0 ((where_passes only _).0 (e n).0 o);
            leads = λ n. (targets_say (sets_in rs) x (named rs 1) only s).0 (e n).1;
          },
      λ p. (and_both _ _).1 (
        (leb_iff _ _).1 p.mark,
        (and_both _ _).1 (
          (all-within s inside).1 p.stands,
          (one_of (ltb (cell x s 0) 2) (bare_fits x s) (expanded_fits (sets_in rs) x (named rs 1) s)).1 (
            λ z. (bare-says x s).1 (p.bare ((ltb_iff _ _).0 z)),
            λ n. let m : cell x s 0 < 2 → ⊥ = λ l. n ((ltb_iff _ _).1 l) in
                (and_both _ _).1 (
                  (where_passes only _).1 (λ o. (reductions-within s inside).1 (p.reduces m o)),
                  (targets_say (sets_in rs) x (named rs 1) only s).1 (p.leads m),
                ),
          ),
        ),
      ),
    )

    module _ (p : Passes) where
      stands-16 : Subset x.words (s * 18) (named rs 2) 0 16
      stands-16 k l = p.stands k (omega arith)

      item-named : (r d : ℕ) → r < 128 → d < 8 → bit_of x s (item r d) ≡ 1 → Stated rs 2 r × (d ≤ rule_number rs r 2)
      item-named = item-stands s 2 stands-16

      reduction-named : (r : ℕ) → r < 128 → bit_of x s (1024 + r) ≡ 1 → Stated rs 2 r
      reduction-named r l e = (named_reduction rs few short 2 r l).0 (p.stands (1024 + r) (omega arith) e)

      items-zero : (i : ℕ) → rules_in rs * 8 ≤ i → i < 1024 → bit_of x s i ≡ 0
      items-zero i g h = ⊎_elim (λ e. e) (λ e.
          let z : item (i / 8) (i % 8) ≡ i = omega arith in
          let (st, _) = item-named (i / 8) (i % 8) (omega arith) (omega arith) (ap (bit_of x s) z ∙ e) in
          absurd (omega (arith, st.inside))) (has-cases x.words (s * 18) i)

      reductions-zero : (r : ℕ) → rules_in rs ≤ r → r < 128 → bit_of x s (1024 + r) ≡ 0
      reductions-zero r g h = ⊎_elim (λ e. e) (λ e. absurd (omega (arith, (reduction-named r h e).inside))) (has-cases x.words (s * 18) (1024 + r))

      free-empty : cell x s 0 ≡ 0 → (i : ℕ) → i < 1024 → bit_of x s i ≡ 0
      free-empty e = (empty_iff x.words (s * 18) (λ k l. fit (s * 18 + k) (omega arith))).0 ((p.bare (omega arith)).free e)

      pub passes-laid : LaidSet (rules_in rs) x s
      passes-laid = record {
        mark = p.mark;
        words = λ k l. fit (s * 18 + k) (omega arith);
        items = items-zero;
        reductions = reductions-zero;
        bare = λ l. (p.bare l).targets;
        idle = λ l. reductions-idle x s (p.bare l);
        unused = free-empty;
      }

      -- where the kernel names current rules only, the code's tests find it so
      names-only : NamesCurrent (view_rules rs) (kernel_seen (rules_in rs) x.words (s * 18)) → T only
      names-only names =
          (kernel-within s inside).1 (current-kernel s (λ r d a b e. let (st, l) = item-named r d a b e in (st.inside, l)) names)

      -- only an expanded set has transitions and reductions
      expanded-by-target : (k : ℕ) → 1 ≤ k → k < 128 → cell x s k ≢ 0 → cell x s 0 < 2 → ⊥
      expanded-by-target k a b d l = d ((p.bare l).targets k a b)

      expanded-by-reduction : (r : ℕ) → r < 128 → bit_of x s (1024 + r) ≡ 1 → cell x s 0 < 2 → ⊥
      expanded-by-reduction r a e l = omega (arith, reductions-idle x s (p.bare l) r a)

      bare-place : cell x s 0 < 2 → set_seen (rules_in rs) x s ≡ record {
        state = state_of (cell x s 0);
        kernel = kernel_seen (rules_in rs) x.words (s * 18);
        transitions = [];
        reductions = [];
        accepts = false;
      }
      bare-place l =
          let t = transitions-none x s (p.bare l).targets in
          let r = reductions-none (rules_in rs) x s (λ r h. reductions-idle x s (p.bare l) r (omega arith)) in
          let a = accepts_not (cell x s 0) (λ e. omega arith) in
          λ z. record { state = state_of (cell x s 0); kernel = kernel_seen (rules_in rs) x.words (s * 18); transitions = t z; reductions = r z; accepts = a z }

      pub passes-form : SetInForm (view_rules rs) (view_sets (sets_in rs) (rules_in rs) x) (set_seen (rules_in rs) x s)
      passes-form = record {
        states = state_le (cell x s 0);
        items = λ i m.
            let ((a, b), e) = (in_seen (rules_in rs) x.words (s * 18) i.rule i.dot).0 m in
            let (st, l) = item-named i.rule i.dot (omega arith) b e in
            (stated_named st, subst (λ n. i.dot ≤ n) (sym (at_length rs i.rule a)) l);
        reductions = λ r m. let (a, e) = (reductions_read (rules_in rs) x s r).0 m in stated_named (reduction-named r (omega arith) e);
        one_target = symbols_ascend (rules_in rs) x s;
        targets = λ a m.
            let ((g, h), (e, d)) = (in_transitions x s a.on a.to).0 m in
            let led = p.leads (expanded-by-target a.on g h (λ z. d (e ∙ z))) a.on g h (λ z. d (e ∙ z)) in
            ((used-is (sets_in rs) (rules_in rs) x a.to).1 (subst (λ t. (t < sets_in rs) × (cell x t 0 ≢ 0)) (sym e) (led.inside, led.used)), d);
        current_reductions = λ names r m.
            let (a, e) = (reductions_read (rules_in rs) x s r).0 m in
            let l : r < 128 = omega arith in
            stated_current ((named_reduction rs few short 1 r l).0 (p.reduces (expanded-by-reduction r l e) (names-only names) r l e));
        current_targets = λ names a m.
            let ((g, h), (e, d)) = (in_transitions x s a.on a.to).0 m in
            let led = p.leads (expanded-by-target a.on g h (λ z. d (e ∙ z))) a.on g h (λ z. d (e ∙ z)) in
            subst (λ t. NamesCurrent (view_rules rs) (set_at (view_sets (sets_in rs) (rules_in rs) x) t).kernel) (sym e)
            (subst (λ q. NamesCurrent (view_rules rs) q.kernel) (sym (set_read (sets_in rs) (rules_in rs) x (cell x s a.on) led.inside))
            (kernel-current (cell x s a.on) ((kernel-within (cell x s a.on) led.inside).0 (led.names (names-only names)))));
        unused = λ e.
            let z = (state_free (cell x s 0)).0 e in
            let k = kernel-none (rules_in rs) x.words (s * 18) (λ i l. free-empty z i (omega arith)) in
            bare-place (omega arith) ∙ (λ i. record { state = e i; kernel = k i; transitions = []; reductions = []; accepts = false });
        bare = λ e.
            let z = state-unexpanded (cell x s 0) e in
            bare-place (omega arith) ∙ (λ i. record { state = e i; kernel = kernel_seen (rules_in rs) x.words (s * 18); transitions = []; reductions = []; accepts = false });
        kernel_ascends = subst (λ n. kernel_seen (rules_in rs) x.words (s * 18) ≡ keep (has_item (kernel_seen (rules_in rs) x.words (s * 18))) (all_items n))
            (sym (length_tab (rules_in rs) (rule_seen rs))) (kernel_ascends (rules_in rs) x.words (s * 18));
        reductions_ascend = subst (λ n. reductions_seen (rules_in rs) x s ≡ keep (λ r. someIn (eqb r) (reductions_seen (rules_in rs) x s)) (up_from 0 n))
            (sym (length_tab (rules_in rs) (rule_seen rs))) (reductions_ascend (rules_in rs) x s);
      }

  -- ---- a set that is laid out and in form passes

  module _ (each : (t : ℕ) → t < sets_in rs → LaidSet (rules_in rs) x t)
      (form : (t : ℕ) → t < sets_in rs → SetInForm (view_rules rs) (view_sets (sets_in rs) (rules_in rs) x) (set_seen (rules_in rs) x t)) where
    form-item : (t : ℕ) → t < sets_in rs → (r d : ℕ) → r < 128 → d < 8 → bit_of x t (item r d) ≡ 1
        → (r < rules_in rs) × (Named (view_rules rs) r) × (d ≤ rule_number rs r 2)
    form-item t l r d p q e = elim (dec_lt r (rules_in rs)) [
      | yes h ↦
          let (a, b) = (form t l).items (item_of r d) ((in_seen (rules_in rs) x.words (t * 18) r d).1 ((h, q), e)) in
          (h, a, subst (λ n. d ≤ n) (at_length rs r h) b)
      | no g ↦ absurd (omega (arith, (each t l).items (item r d) (omega arith) (omega arith)))
    ]

    form-stands : (t : ℕ) → t < sets_in rs → Subset x.words (t * 18) (named rs 2) 0 18
    form-stands t l k h e = elim (dec_lt k 1024) [
      | yes g ↦
          let z : item (k / 8) (k % 8) ≡ k = omega arith in
          let (_, a, b) = form-item t l (k / 8) (k % 8) (omega arith) (omega arith) (ap (bit_of x t) z ∙ e) in
          subst (λ j. has (named rs 2) 0 j ≡ 1) z ((named-item rs few short 2 (k / 8) (k % 8) (omega arith) (omega arith)).1 (named_stated a, b))
      | no g ↦
          let z : 1024 + (k - 1024) ≡ k = omega arith in
          let b : bit_of x t (1024 + (k - 1024)) ≡ 1 = ap (bit_of x t) z ∙ e in
          subst (λ j. has (named rs 2) 0 j ≡ 1) z ((named_reduction rs few short 2 (k - 1024) (omega arith)).1 (named_stated (named-of (k - 1024) (omega arith) b)))
    ]
      where
        named-of : (r : ℕ) → r < 128 → bit_of x t (1024 + r) ≡ 1 → Named (view_rules rs) r
        named-of r q b = elim (dec_lt r (rules_in rs)) [
          | yes h ↦ (form t l).reductions r ((reductions_read (rules_in rs) x t r).1 (h, b))
          | no g ↦ absurd (omega (arith, (each t l).reductions r (omega arith) q))
        ]

    within-current : (t : ℕ) → t < sets_in rs → NamesCurrent (view_rules rs) (kernel_seen (rules_in rs) x.words (t * 18))
        → Subset x.words (t * 18) (named rs 1) 0 16
    within-current t l = current-kernel t (λ r d p q e. let (a, b, c) = form-item t l r d p q e in (a, c))

    pub form-passes : (s : ℕ) (l : s < sets_in rs) → Passes s l
    form-passes s l = record {
      mark = (each s l).mark;
      stands = form-stands s l;
      bare = λ m. record {
        targets = (each s l).bare m;
        low = idle-low x s ((each s l).idle m) (fit (s * 18 + 16) (omega arith));
        high = idle-high x s ((each s l).idle m) (fit (s * 18 + 17) (omega arith));
        free = λ e. (empty_iff x.words (s * 18) (λ k h. fit (s * 18 + k) (omega arith))).1 ((each s l).unused e);
      };
      reduces = λ n o r q e. elim (dec_lt r (rules_in rs)) [
        | yes h ↦ (named_reduction rs few short 1 r q).1 (current_stated
            ((form s l).current_reductions (kernel-current s ((kernel-within s l).0 o)) r ((reductions_read (rules_in rs) x s r).1 (h, e))))
        | no g ↦ absurd (omega (arith, (each s l).reductions r (omega arith) q))
      ];
      leads = λ n k p q d.
          let m = (in_transitions x s k (cell x s k)).1 ((p, q), (refl, d)) in
          let (a, b) = (used-is (sets_in rs) (rules_in rs) x (cell x s k)).0 ((form s l).targets _ m).0 in
          record {
            inside = a;
            used = b;
            names = λ o. (kernel-within (cell x s k) a).1 (within-current (cell x s k) a
                (subst (λ y. NamesCurrent (view_rules rs) y.kernel) (set_read (sets_in rs) (rules_in rs) x (cell x s k) a)
                ((form s l).current_targets (kernel-current s ((kernel-within s l).0 o)) _ m)));
          };
    }
