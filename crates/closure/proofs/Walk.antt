-- What the three walks over a closure have put into their words at the end is what the model reads off it. Assumes nothing.
use mathlib.Core.Path.{◌≡◌, refl, sym, ap, subst, ◌∙◌}
use mathlib.Core.Logic.{◌↔◌, ◌⊎◌, inr, ⊎_elim}
use mathlib.Core.Bool.{false, not}
use mathlib.Core.List.{List, [], map, Memᴰ as In}
use Prim.Native.Nat.{ℕ, pred, ◌+◌, ◌*◌, ◌/◌, ◌%◌, ◌≤◌, ◌<◌, zero-le}
use native.Mathlib.Omega.{arith}
use lib.Dec.{T, eqb, ltb}
use lib.ListN.{length}
use Rattle.laws.specs.Choice.{◌and◌}
use Rattle.laws.specs.Lists.{someIn, keep, up_from}
use Rattle.laws.proofs.Chosen.{iff_same}
use Rattle.laws.proofs.Tests.{and_both, eqb_iff, ltb_iff, not_eqb}
use Rattle.laws.proofs.Lists.{some_in, in_keep, in_map, in_up}
use Rattle.symbols.specs.Symbol.{START}
use Rattle.kernels.specs.Walk.{visit}
use Rattle.kernels.specs.Kernel.{has}
use Rattle.kernels.proofs.Kernel.{has-cases}
use Rattle.theory.specs.Table.{RulePlace, Item, rule_at, item, has_item, all_items}
use Rattle.theory.specs.Expansion.{after, moved, symbols, completed, filled}
use Rattle.theory.proofs.Items.{Ascends, has-item, in_all, same-kernel}
use Rattle.theory.proofs.Kernels.{moved_ascends}
use Rattle.table.specs.Layout.{rules_in, kernel_seen, view_rules}
use Rattle.table.specs.Laid.{FormedRules, Within, HoldsKernel}
use Rattle.closure.specs.Item.{item_at, after_at, ends_at}
use Rattle.closure.specs.Walk.{put_after, put_moved, is_of_start, put_reduction, accepts_too, HoldsSymbols, HoldsCompleted}
use Rattle.closure.specs.declared.walks.Completed.{Completed}
use Rattle.closure.proofs.Rules.{after-at, after-inside}
use Rattle.kernels.proofs.Puts.{visit_bits, visit-mark}
use Rattle.closure.proofs.Seen.{seen_ascends, bit-inside, bit-item}
use Rattle.table.proofs.Read.{in_seen, view-length}

-- ---- what is in the model's lists

module _ (rs : List RulePlace) (l : List Item) where
  in_symbols : (x : ℕ) → In x (symbols rs l) ↔ (((1 ≤ x) × (x ≤ 127)) × ((i : Item) × In i l × (after rs i ≡ x)))
  in_symbols x = (
    λ m.
        let (a, b) = (in_keep (λ x. someIn (eqb x) (map (after rs) l)) (up_from 1 127)).0 m in
        let (y, c, e) = (some_in (eqb x) (map (after rs) l)).0 b in
        let (i, d, f) = (in_map (after rs) l).0 c in
        let (p, q) = (in_up 1 127).0 a in
        ((p, omega arith), (i, d, sym ((eqb_iff x y).0 e ∙ f))),
    λ ((p, q), (i, d, e)).
        (in_keep (λ x. someIn (eqb x) (map (after rs) l)) (up_from 1 127)).1 (
          (in_up 1 127).1 (p, omega arith),
          (some_in (eqb x) (map (after rs) l)).1 (after rs i, (in_map (after rs) l).1 (i, d, refl), (eqb_iff x (after rs i)).1 (sym e)),
        ),
  )

  in_moved : (x r d : ℕ) → In (item r d) (moved rs l x)
      ↔ (((r < length rs) × (d < 8)) × ((0 < d) × In (item r (pred d)) l × (after rs (item r (pred d)) ≡ x)))
  in_moved x r d = (
    λ m.
        let (a, b) = (in_keep (λ i. ltb 0 i.dot and has_item over (item i.rule (pred i.dot))) (all_items (length rs))).0 m in
        let (p, q) = (and_both (ltb 0 d) (has_item over (item r (pred d)))).0 b in
        let (n, e) = (in_keep (λ i. eqb (after rs i) x) l).0 ((has-item over (item r (pred d))).0 q) in
        ((in_all (length rs)).0 a, ((ltb_iff 0 d).0 p, n, (eqb_iff _ x).0 e)),
    λ (a, (p, n, e)).
        (in_keep (λ i. ltb 0 i.dot and has_item over (item i.rule (pred i.dot))) (all_items (length rs))).1 (
          (in_all (length rs)).1 a,
          (and_both (ltb 0 d) (has_item over (item r (pred d)))).1
              ((ltb_iff 0 d).1 p, (has-item over (item r (pred d))).1 ((in_keep (λ i. eqb (after rs i) x) l).1 (n, (eqb_iff _ x).1 e))),
        ),
  )
    where
      over : List Item
      over = keep (λ i. eqb (after rs i) x) l

ends_iff : (rs : List RulePlace) (i : ℕ) → T (ends_at rs i) ↔ (i % 8 ≡ length (rule_at rs (i / 8)).right)
unfolding ends_at
ends_iff rs i = eqb_iff (i % 8) (length (rule_at rs (i / 8)).right)

-- ---- the walks

module _ (rs c : List ℕ) (formed : FormedRules rs) (within : Within (rules_in rs) c 0) where
  abbrev n : ℕ
  n = rules_in rs

  abbrev vs : List RulePlace
  vs = view_rules rs

  abbrev seen : List Item
  seen = kernel_seen n c 0

  small : n ≤ 128
  small = formed.laid.few_rules

  module _ (a : List ℕ) (none : (j : ℕ) → has a 0 j ≡ 0) where
    some : {P : Type 0} (j : ℕ) → (has a 0 j ≡ 1) ⊎ P → P
    some j q = ⊎_elim (λ h. absurd (omega (arith, none j, h))) (λ p. p) q

    pub holds-symbols : length a ≡ 2 → {ws : List ℕ} → ws ≡ visit (put_after vs) (has c 0) 1024 a → HoldsSymbols ws vs seen
    unfolding after_at
    holds-symbols size {ws} made x = (
      λ h.
          let (i, l, (o, t, e)) = some x (bits.0 (ap (λ ws. has ws 0 x) (sym made) ∙ h)) in
          let p : 1 ≤ after_at vs i = positive i t in
          let (q, u) = after-inside rs formed i p in
          (in_symbols vs seen x).1 ((omega arith, omega arith), (item_at i, (bit-item n c 0 i (bit-inside n c 0 within i l o)).0 o, sym e)),
      λ m.
          let ((p, q), (i, k, e)) = (in_symbols vs seen x).0 m in
          let ((lr, ld), o) = (in_seen n c 0 i.rule i.dot).0 k in
          let f : after_at vs (i.rule * 8 + i.dot) ≡ x = after-at vs i.rule i.dot ld ∙ e in
          ap (λ ws. has ws 0 x) made
          ∙ bits.1 (inr (i.rule * 8 + i.dot, omega (arith, small), (o, (not_eqb (after_at vs (i.rule * 8 + i.dot)) 0).1 (λ z. omega arith), sym f))),
    )
      where
        positive : (i : ℕ) → T (not (eqb (after_at vs i) 0)) → 1 ≤ after_at vs i
        positive i t = let d = (not_eqb (after_at vs i) 0).0 t in omega arith

        bits : (has (visit (put_after vs) (has c 0) 1024 a) 0 x ≡ 1)
            ↔ ((has a 0 x ≡ 1) ⊎ ((i : ℕ) × (i < 1024) × ((has c 0 i ≡ 1) × T (not (eqb (after_at vs i) 0)) × (x ≡ after_at vs i))))
        bits = visit_bits (λ i. not (eqb (after_at vs i) 0)) (after_at vs) (has c 0) 1024 a
            (λ i l o t. let (q, u) = after-inside rs formed i (positive i t) in omega arith) x

    pub holds-moved : (x : ℕ) → 1 ≤ x → length a ≡ 16 → {ws : List ℕ} → ws ≡ visit (put_moved vs x) (has c 0) 1024 a → HoldsKernel n ws 0 (moved vs seen x)
    holds-moved x h size {ws} made = record {
      seen = same-kernel n (seen_ascends n ws 0) (subst (λ n. Ascends n (moved vs seen x)) (view-length rs) (moved_ascends vs seen x)) (λ r d. (to r d, from r d));
      within = λ j l m. ⊎_elim (λ z. z) (λ o. let (i, k, (p, t, e)) = found j o in let (q, u) = inside i t in absurd (omega (arith, bit-inside n c 0 within i k p))) (has-cases ws 0 j);
    }
      where
        inside : (i : ℕ) → T (eqb (after_at vs i) x) → (i % 8 < 7) × (after_at vs i ≤ 127)
        inside i t = let e = (eqb_iff (after_at vs i) x).0 t in after-inside rs formed i (omega arith)

        bits : (j : ℕ) → (has (visit (put_moved vs x) (has c 0) 1024 a) 0 j ≡ 1)
            ↔ ((has a 0 j ≡ 1) ⊎ ((i : ℕ) × (i < 1024) × ((has c 0 i ≡ 1) × T (eqb (after_at vs i) x) × (j ≡ i + 1))))
        bits j = visit_bits (λ i. eqb (after_at vs i) x) (λ i. i + 1) (has c 0) 1024 a (λ i l o t. let (q, u) = inside i t in omega arith) j

        found : (j : ℕ) → has ws 0 j ≡ 1 → (i : ℕ) × (i < 1024) × ((has c 0 i ≡ 1) × T (eqb (after_at vs i) x) × (j ≡ i + 1))
        found j o = some j ((bits j).0 (ap (λ ws. has ws 0 j) (sym made) ∙ o))

        to : (r d : ℕ) → In (item r d) (kernel_seen n ws 0) → In (item r d) (moved vs seen x)
        to r d m =
            let ((lr, ld), o) = (in_seen n ws 0 r d).0 m in
            let (i, k, (p, t, e)) = found (r * 8 + d) o in
            let (q, u) = inside i t in
            let f : i ≡ r * 8 + pred d = omega arith in
            let g : pred d < 8 = omega arith in
            (in_moved vs seen x r d).1 (
              (omega (arith, view-length rs), ld),
              (omega arith, (in_seen n c 0 r (pred d)).1 ((lr, g), ap (has c 0) (sym f) ∙ p), sym (after-at vs r (pred d) g) ∙ ap (after_at vs) (sym f) ∙ (eqb_iff (after_at vs i) x).0 t),
            )

        from : (r d : ℕ) → In (item r d) (moved vs seen x) → In (item r d) (kernel_seen n ws 0)
        from r d m =
            let ((lr, ld), (p, k, e)) = (in_moved vs seen x r d).0 m in
            let ((l, g), o) = (in_seen n c 0 r (pred d)).0 k in
            (in_seen n ws 0 r d).1 (
              (l, ld),
              ap (λ ws. has ws 0 (r * 8 + d)) made
                  ∙ (bits (r * 8 + d)).1 (inr (r * 8 + pred d, omega (arith, small), (o, (eqb_iff (after_at vs (r * 8 + pred d)) x).1 (after-at vs r (pred d) g ∙ e), omega arith))),
            )

    pub holds-completed : length a ≡ 2 → (done : Completed) → done.reductions ≡ visit (put_reduction vs) (has c 0) 1024 a
        → done.accepts ≡ visit (accepts_too vs) (has c 0) 1024 false → HoldsCompleted vs seen done
    holds-completed size done made marked = record {
      reductions = λ r. (
        λ h.
            let (i, l, (o, t, e)) = some r ((bits r).0 (ap (λ ws. has ws 0 r) (sym made) ∙ h)) in
            let (p, q) = (and_both (ends_at vs i) (not (is_of_start vs i))).0 t in
            let k = bit-inside n c 0 within i l o in
            (in_keep (λ r. completed vs seen r and not (eqb (rule_at vs r).left START)) (up_from 0 (length vs))).1 (
              (in_up 0 (length vs)).1 (zero-le, omega (arith, view-length rs)),
              subst (λ r. T (completed vs seen r and not (eqb (rule_at vs r).left START))) (sym e)
                  ((and_both (completed vs seen (i / 8)) (not (is_of_start vs i))).1 (ended i k o p, q)),
            ),
        λ m.
            let (a, b) = (in_keep (λ r. completed vs seen r and not (eqb (rule_at vs r).left START)) (up_from 0 (length vs))).0 m in
            let (p, q) = (and_both (completed vs seen r) (not (eqb (rule_at vs r).left START))).0 b in
            let (i, l, (o, t, e)) = of-completed r p in
            ap (λ ws. has ws 0 r) made
            ∙ (bits r).1 (inr (i, l, (o, (and_both (ends_at vs i) (not (is_of_start vs i))).1 (t, subst (λ r. T (not (eqb (rule_at vs r).left START))) e q), e))),
      );
      accepts = marked ∙ iff_same (visit (accepts_too vs) (has c 0) 1024 false) (filled vs seen seen []).accepts
          (λ h.
          let (i, l, (o, t)) = mark.0 h in
          let (p, q) = (and_both (ends_at vs i) (is_of_start vs i)).0 t in
          let k = bit-inside n c 0 within i l o in
          (some_in (λ r. completed vs seen r and eqb (rule_at vs r).left START) (up_from 0 (length vs))).1
          (i / 8, (in_up 0 (length vs)).1 (zero-le, omega (arith, view-length rs)), (and_both (completed vs seen (i / 8)) (is_of_start vs i)).1 (ended i k o p, q)))
          (λ h.
          let (r, a, b) = (some_in (λ r. completed vs seen r and eqb (rule_at vs r).left START) (up_from 0 (length vs))).0 h in
          let (p, q) = (and_both (completed vs seen r) (eqb (rule_at vs r).left START)).0 b in
          let (i, l, (o, t, e)) = of-completed r p in
          mark.1 (i, l, (o, (and_both (ends_at vs i) (is_of_start vs i)).1 (t, subst (λ r. T (eqb (rule_at vs r).left START)) e q))));
    }
      where
        -- the completed item of a rule, by its bit
        ended : (i : ℕ) → i < n * 8 → has c 0 i ≡ 1 → T (ends_at vs i) → T (completed vs seen (i / 8))
        ended i k o t =
            (has-item seen (item (i / 8) (length (rule_at vs (i / 8)).right))).1 (subst (λ d. In (item (i / 8) d) seen) ((ends_iff vs i).0 t) ((bit-item n c 0 i k).0 o))

        of-completed : (r : ℕ) → T (completed vs seen r) → (i : ℕ) × (i < 1024) × ((has c 0 i ≡ 1) × T (ends_at vs i) × (r ≡ i / 8))
        of-completed r t =
            let d = length (rule_at vs r).right in
            let ((lr, ld), o) = (in_seen n c 0 r d).0 ((has-item seen (item r d)).0 t) in
            let er : r ≡ (r * 8 + d) / 8 = omega arith in
            let ed : (r * 8 + d) % 8 ≡ d = omega arith in
            (r * 8 + d, omega (arith, small), (o, (ends_iff vs (r * 8 + d)).1 (ed ∙ ap (λ r. length (rule_at vs r).right) er), er))

        bits : (r : ℕ) → (has (visit (put_reduction vs) (has c 0) 1024 a) 0 r ≡ 1)
            ↔ ((has a 0 r ≡ 1) ⊎ ((i : ℕ) × (i < 1024) × ((has c 0 i ≡ 1) × T (ends_at vs i and not (is_of_start vs i)) × (r ≡ i / 8))))
        bits r = visit_bits (λ i. ends_at vs i and not (is_of_start vs i)) (λ i. i / 8) (has c 0) 1024 a (λ i l o t. omega arith) r

        mark : T (visit (accepts_too vs) (has c 0) 1024 false) ↔ ((i : ℕ) × (i < 1024) × ((has c 0 i ≡ 1) × T (ends_at vs i and is_of_start vs i)))
        mark = visit-mark (λ i. ends_at vs i and is_of_start vs i) (has c 0) 1024
