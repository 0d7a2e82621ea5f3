-- The tests of kernels are the form's clauses on the start set's kernel and on equal kernels. Assumes nothing.
use mathlib.Core.Path.{◌≡◌, sym, ap, subst, ◌∙◌}
use mathlib.Core.Logic.{◌↔◌, ◌≢◌, ⊎_elim}
use mathlib.Core.Bool.{not}
use mathlib.Core.List.{List}
use Prim.Native.Nat.{ℕ, ◌+◌, ◌*◌, ◌/◌, ◌%◌, ◌^◌, ◌≤◌, ◌<◌}
use native.Mathlib.Decide.{ℕ_discrete, dec_lt}
use native.Mathlib.Omega.{arith}
use lib.Dec.{T, eqb}
use lib.ListN.{get_or}
use Rattle.laws.specs.Choice.{◌and◌}
use Rattle.laws.proofs.Tests.{and_both, eqb_iff, all-below, not_iff, where_fails, not_eqb}
use Rattle.laws.proofs.Tables.{length_tab}
use Rattle.kernels.specs.Kernel.{item, has, same}
use Rattle.kernels.proofs.Kernel.{Words, has-cases}
use Rattle.theory.specs.Items.{StartItem}
use Rattle.theory.specs.Table.{set_at, grammar, start_kernel}
use Rattle.theory.specs.Form.{InUse}
use Rattle.theory.proofs.Items.{Ascends, same-kernel, in_start, start_ascends, current-inside}
use Rattle.table.specs.Layout.{Sets, sets_in, rules_in, cell, kernel_seen, rule_seen, view_rules, view_sets}
use Rattle.table.specs.Laid.{LaidSet, Within}
use Rattle.table.proofs.Read.{set_read, in_seen}
use Rattle.table.proofs.SameKernel.{same_seen}
use Rattle.form.specs.Masks.{starts}
use Rattle.form.specs.Sets.{kernel_differs, kernel_alone, kernels_differ}
use Rattle.form.specs.Formed.{start_fits}
use Rattle.form.proofs.RuleForm.{at-state, at_left}
use Rattle.form.proofs.MaskBits.{starts_mask, starts-item}
use Rattle.form.proofs.Ascending.{kernel_ascends}
use Rattle.form.proofs.SetForm.{used-is}

-- ---- the start kernel

module _ (rs : List ℕ) (few : rules_in rs ≤ 128) where
  starts-within : Within (rules_in rs) (starts rs) 0
  starts-within i g h = ⊎_elim (λ e. e) (λ e.
      let z : item (i / 8) (i % 8) ≡ i = omega arith in
      let l = ((starts-item rs few (i / 8) (i % 8) (omega arith)).0 (ap (has (starts rs) 0) z ∙ e)).0 in
      absurd (omega arith)) (has-cases (starts rs) 0 i)

  -- the mask of the current START rules is the start kernel
  starts-seen : kernel_seen (rules_in rs) (starts rs) 0 ≡ start_kernel (view_rules rs)
  starts-seen =
      same-kernel (rules_in rs) (kernel_ascends (rules_in rs) (starts rs) 0)
      (subst (λ n. Ascends n (start_kernel (view_rules rs))) (length_tab (rules_in rs) (rule_seen rs)) (start_ascends (view_rules rs)))
      (λ r d. (
        λ m. (in_start (view_rules rs) r d).1 (to r d ((in_seen (rules_in rs) (starts rs) 0 r d).0 m)),
        λ m. (in_seen (rules_in rs) (starts rs) 0 r d).1 (from r d ((in_start (view_rules rs) r d).0 m)),
      ))
    where
      to : (r d : ℕ) → ((r < rules_in rs) × (d < 8)) × (has (starts rs) 0 (r * 8 + d) ≡ 1) → StartItem (grammar (view_rules rs)) r d
      to r d ((p, q), e) =
          let (l, z, c, x) = (starts-item rs few r d q).0 e in
          record { at_first = z; current = (eqb_iff _ _).1 (at-state rs r p ∙ c); of_start = at_left rs r p ∙ x }

      from : (r d : ℕ) → StartItem (grammar (view_rules rs)) r d → ((r < rules_in rs) × (d < 8)) × (has (starts rs) 0 (r * 8 + d) ≡ 1)
      from r d s =
          let l : r < rules_in rs = omega (arith, current-inside (view_rules rs) r s.current, length_tab (rules_in rs) (rule_seen rs)) in
          let z = s.at_first in
          let q : d < 8 = omega arith in
          ((l, q), (starts-item rs few r d q).1 (l, z, sym (at-state rs r l) ∙ (eqb_iff _ _).0 s.current, sym (at_left rs r l) ∙ s.of_start))

-- the test of a pair
differs-says : (x : Sets) (s u : ℕ) → T (kernel_differs x s u) ↔ (T (same x.words (u * 18) x.words (s * 18)) → cell x u 0 ≢ 0 → ⊥)
unfolding kernel_differs
differs-says x s u =
    let a = same x.words (u * 18) x.words (s * 18) in
    let b = not (eqb (cell x u 0) 0) in (
      λ t e d. (not_iff (a and b)).0 t ((and_both a b).1 (e, (not_eqb (cell x u 0) 0).1 d)),
      λ h. (not_iff (a and b)).1 (λ t. let (e, d) = (and_both a b).0 t in h e ((not_eqb (cell x u 0) 0).0 d)),
    )

module _ (rs : List ℕ) (x : Sets) (few : rules_in rs ≤ 128) (fit : (k : ℕ) → k < sets_in rs * 18 → get_or x.words k 0 < 2 ^ 64)
    (each : (t : ℕ) → t < sets_in rs → LaidSet (rules_in rs) x t) where
  words : (t : ℕ) → t < sets_in rs → Words x.words (t * 18)
  words t l k h = fit (t * 18 + k) (omega arith)

  kernel-at : (t : ℕ) → t < sets_in rs → (set_at (view_sets (sets_in rs) (rules_in rs) x) t).kernel ≡ kernel_seen (rules_in rs) x.words (t * 18)
  kernel-at t l = ap (λ p. p.kernel) (set_read (sets_in rs) (rules_in rs) x t l)

  pub start-form : 1 ≤ sets_in rs → T (start_fits rs x)
      ↔ (InUse (view_sets (sets_in rs) (rules_in rs) x) 0 × ((set_at (view_sets (sets_in rs) (rules_in rs) x) 0).kernel ≡ start_kernel (view_rules rs)))
  unfolding start_fits
  start-form some =
      let l : 0 < sets_in rs = omega arith in
      let i = same_seen (rules_in rs) x.words 0 (starts rs) 0 few (words 0 l) (λ k h. (starts_mask rs few).fit (0 + k)) (each 0 l).items (starts-within rs few) in (
        λ t. let (a, b) = (and_both _ _).0 t in
            ((used-is (sets_in rs) (rules_in rs) x 0).1 (l, (not_eqb (cell x 0 0) 0).0 a), kernel-at 0 l ∙ i.0 b ∙ starts-seen rs few),
        λ (u, e). (and_both _ _).1 (
          (not_eqb (cell x 0 0) 0).1 ((used-is (sets_in rs) (rules_in rs) x 0).0 u).1,
          i.1 (sym (kernel-at 0 l) ∙ e ∙ sym (starts-seen rs few)),
        ),
      )

  -- ---- no two equal

  abbrev pub NoTwoKernels : Type 0
  NoTwoKernels = (s u : ℕ) → InUse (view_sets (sets_in rs) (rules_in rs) x) s → InUse (view_sets (sets_in rs) (rules_in rs) x) u
      → (set_at (view_sets (sets_in rs) (rules_in rs) x) s).kernel ≡ (set_at (view_sets (sets_in rs) (rules_in rs) x) u).kernel → s ≡ u

  alike : (s u : ℕ) → s < sets_in rs → u < sets_in rs → T (same x.words (s * 18) x.words (u * 18))
      ↔ ((set_at (view_sets (sets_in rs) (rules_in rs) x) s).kernel ≡ (set_at (view_sets (sets_in rs) (rules_in rs) x) u).kernel)
  alike s u p q =
      let i = same_seen (rules_in rs) x.words (s * 18) x.words (u * 18) few (words s p) (words u q) (each s p).items (each u q).items in
      (λ t. kernel-at s p ∙ i.0 t ∙ sym (kernel-at u q), λ e. i.1 (sym (kernel-at s p) ∙ e ∙ kernel-at u q))

  apart : T (kernels_differ (sets_in rs) x) → (u s : ℕ) → InUse (view_sets (sets_in rs) (rules_in rs) x) u → InUse (view_sets (sets_in rs) (rules_in rs) x) s
      → (set_at (view_sets (sets_in rs) (rules_in rs) x) u).kernel ≡ (set_at (view_sets (sets_in rs) (rules_in rs) x) s).kernel → u < s → ⊥
  unfolding kernels_differ kernel_alone
  apart t u s a b e l =
      let (p, c) = (used-is (sets_in rs) (rules_in rs) x u).0 a in
      let (q, d) = (used-is (sets_in rs) (rules_in rs) x s).0 b in
      let v = (where_fails (eqb (cell x s 0) 0) _).0 ((all-below (sets_in rs) (kernel_alone x)).0 t s q) (λ z. d ((eqb_iff _ _).0 z)) in
      (differs-says x s u).0 ((all-below s (kernel_differs x s)).0 v u l) ((alike u s p q).1 e) c

  alone : NoTwoKernels → (s : ℕ) → s < sets_in rs → T (kernel_alone x s)
  unfolding kernel_alone
  alone h s l =
      (where_fails (eqb (cell x s 0) 0) _).1 (λ n. (all-below s (kernel_differs x s)).1 (λ u m. (differs-says x s u).1 (λ a c.
      let k : u < sets_in rs = omega arith in
      let e : u ≡ s = h u s ((used-is (sets_in rs) (rules_in rs) x u).1 (k, c))
      ((used-is (sets_in rs) (rules_in rs) x s).1 (l, λ z. n ((eqb_iff _ _).1 z))) ((alike u s k l).0 a) in
      omega arith)))

  pub kernels-form : T (kernels_differ (sets_in rs) x) ↔ NoTwoKernels
  unfolding kernels_differ
  kernels-form = (to, λ h. (all-below (sets_in rs) (kernel_alone x)).1 (alone h))
    where
      to : T (kernels_differ (sets_in rs) x) → NoTwoKernels
      to t s u a b e = elim (ℕ_discrete s u) [
        | yes q ↦ q
        | no n ↦ elim (dec_lt s u) [
          | yes l ↦ absurd (apart t s u a b e l)
          | no g ↦ absurd (apart t u s b a (sym e) (omega arith))
        ]
      ]
