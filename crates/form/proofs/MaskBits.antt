-- The bits of a mask, one by one: which items and which reductions it lets stand. Assumes nothing.
use mathlib.Core.Path.{◌≡◌, refl, sym, ap, subst, ◌∙◌}
use mathlib.Core.Logic.{◌↔◌, ◌⊎◌, inl, inr, ⊎_elim}
use mathlib.Core.Bool.{Bool, true, false}
use mathlib.Core.List.{List}
use Prim.Native.Nat.{ℕ, zero, suc, ◌+◌, ◌*◌, ◌/◌, ◌%◌, ◌^◌, ◌≤◌, ◌<◌}
use native.Mathlib.Nat.{le_refl, not-suc-le-zero}
use native.Mathlib.Decide.{ℕ_discrete, dec_lt}
use native.Mathlib.Omega.{arith}
use lib.Dec.{T, leb}
use lib.ListN.{length, get_or, get_or-replicate, length-replicate, get_or-eq_default}
use lib.Pow.{pow_pos}
use Rattle.laws.specs.Choice.{◌and◌, when}
use Rattle.laws.specs.Loops.{up_to}
use Rattle.laws.proofs.Tests.{tests, last_or_below}
use Rattle.symbols.specs.Symbol.{START}
use Rattle.kernels.specs.Bit.{bit}
use Rattle.kernels.specs.Kernel.{item, has, put}
use Rattle.kernels.proofs.Bit.{bit_of-zero}
use Rattle.kernels.proofs.Kernel.{length-put, has-put-same, has-put-other, word-put}
use Rattle.theory.specs.Table.{CURRENT}
use Rattle.table.specs.Layout.{rules_in, rule_number}
use Rattle.table.specs.Start.{is_start}
use Rattle.table.proofs.Starts.{starts-length, starts-bits, starts_fit}
use Rattle.form.specs.Masks.{no_bits, put_items, put_named, named, starts, Short}

-- 18 words with the bits of P
pub record Mask (ws : List ℕ) (P : ℕ → Type 0) : Type 0 where
  pub long : length ws ≡ 18
  pub fit : (k : ℕ) → get_or ws k 0 < 2 ^ 64
  pub bits : (j : ℕ) → (has ws 0 j ≡ 1) ↔ P j

-- ---- how a mask grows

mask_none : Mask no_bits (λ j. ⊥)
unfolding has
mask_none = record {
  long = length-replicate {A = ℕ} 18 0;
  fit = λ k. subst (λ x. x < 2 ^ 64) (sym (none k)) (pow_pos 64);
  bits = λ j. (
    λ e. let z : bit (get_or no_bits (0 + j / 64) 0) (j % 64) ≡ 0 = ap (λ x. bit x (j % 64)) (none (0 + j / 64)) ∙ bit_of-zero (j % 64) in omega arith,
    λ f. absurd f,
  );
}
  where
    none : (k : ℕ) → get_or no_bits k 0 ≡ 0
    none k = elim (dec_lt k 18) [ yes l ↦ get_or-replicate 18 k 0 0 l | no n ↦ get_or-eq_default no_bits 0 {n = k} (omega (arith, length-replicate {A = ℕ} 18 0)) ]

mask_put : {ws : List ℕ} {P : ℕ → Type 0} (i : ℕ) → i < 1152 → Mask ws P → Mask (put ws 0 i) (λ j. P j ⊎ (j ≡ i))
mask_put {ws} {P} i l m =
    let there : 0 + i / 64 < length ws = omega (arith, m.long) in
    record {
      long = length-put ws 0 i ∙ m.long;
      fit = λ k. word-put ws 0 i there k (m.fit k);
      bits = λ j. (
        λ e. elim (ℕ_discrete j i) [ yes q ↦ inr q | no d ↦ inl ((m.bits j).0 (sym (has-put-other ws 0 i there j d) ∙ e)) ],
        λ p. elim (ℕ_discrete j i) [
          | yes q ↦ ap (has (put ws 0 i) 0) q ∙ has-put-same ws 0 i there
          | no d ↦ has-put-other ws 0 i there j d ∙ ⊎_elim (λ h. (m.bits j).1 h) (λ q. absurd (d q)) p
        ],
      );
    }

mask_map : {ws : List ℕ} {P Q : ℕ → Type 0} → ((j : ℕ) → P j ↔ Q j) → Mask ws P → Mask ws Q
mask_map h m = record { long = m.long; fit = m.fit; bits = λ j. (λ e. (h j).0 ((m.bits j).0 e), λ q. (m.bits j).1 ((h j).1 q)) }

-- a loop whose turn r adds the bits of W r
mask_loop : (step : ℕ → List ℕ → List ℕ) (W : ℕ → ℕ → Type 0) (n : ℕ) {ws : List ℕ} {P : ℕ → Type 0}
    → ((r : ℕ) (l : List ℕ) (Q : ℕ → Type 0) → r < n → Mask l Q → Mask (step r l) (λ j. Q j ⊎ W r j))
    → Mask ws P → Mask (up_to n step ws) (λ j. P j ⊎ ((r : ℕ) × (r < n) × W r j))
unfolding up_to
mask_loop step W zero h m = mask_map (λ j. (inl, ⊎_elim (λ p. p) (λ (r, l, w). absurd (not-suc-le-zero l)))) m
mask_loop step W (suc n) h m =
    mask_map (λ j. (
      ⊎_elim (⊎_elim inl (λ (r, l, w). inr (r, omega arith, w))) (λ w. inr (n, le_refl (suc n), w)),
      ⊎_elim (λ p. inl (inl p)) (λ (r, l, w). ⊎_elim (λ e. inr (subst (λ k. W k j) e w)) (λ k. inl (inr (r, k, w))) (last_or_below l)),
    ))
    (h n (up_to n step _) _ (le_refl (suc n)) (mask_loop step W n (λ r l Q k. h r l Q (omega arith)) m))

-- a turn that may do nothing
mask_when : (b : Bool) {ws v : List ℕ} {P W : ℕ → Type 0} → Mask ws P → Mask v (λ j. P j ⊎ W j) → Mask (when b v ws) (λ j. P j ⊎ (T b × W j))
unfolding when
mask_when true m k = mask_map (λ j. (⊎_elim inl (λ w. inr (tt, w)), ⊎_elim inl (λ (t, w). inr w))) k
mask_when false m k = mask_map (λ j. (inl, ⊎_elim (λ p. p) (λ (t, w). absurd t))) m

-- ---- the rules whose state is 1 to `last`

pub record Stated (rs : List ℕ) (last r : ℕ) : Type 0 where
  pub inside : r < rules_in rs
  pub used : 1 ≤ rule_number rs r 0
  pub most : rule_number rs r 0 ≤ last

module _ (rs : List ℕ) (few : rules_in rs ≤ 128) (short : Short rs) (last : ℕ) where
  abbrev Asked : ℕ → Type 0
  Asked r = T (leb 1 (rule_number rs r 0) and leb (rule_number rs r 0) last)

  abbrev Bits : ℕ → ℕ → Type 0
  Bits r j = ((d : ℕ) × (d < rule_number rs r 2 + 1) × (j ≡ item r d)) ⊎ (j ≡ 1024 + r)

  turn : (r : ℕ) (l : List ℕ) (Q : ℕ → Type 0) → r < rules_in rs → Mask l Q
      → Mask (put_named rs last r l) (λ j. Q j ⊎ (Asked r × Bits r j))
  unfolding put_named put_items
  turn r l Q k m =
      mask_when (leb 1 (rule_number rs r 0) and leb (rule_number rs r 0) last) m
      (mask_map (λ j. (⊎_elim (⊎_elim inl (λ w. inr (inl w))) (λ e. inr (inr e)), ⊎_elim (λ p. inl (inl p)) (⊎_elim (λ w. inl (inr w)) inr)))
      (mask_put (1024 + r) (omega arith)
      (mask_loop (λ d l. put l 0 (item r d)) (λ d j. j ≡ item r d) (rule_number rs r 2 + 1) (λ d l Q h q. mask_put (item r d) (let s = short r k in omega arith) q) m)))

  pub named_mask : Mask (named rs last) (λ j. ⊥ ⊎ ((r : ℕ) × (r < rules_in rs) × (Asked r × Bits r j)))
  unfolding named
  named_mask = mask_loop (put_named rs last) (λ r j. Asked r × Bits r j) (rules_in rs) turn mask_none

  -- their items
  pub named-item : (r d : ℕ) → r < 128 → d < 8 → (has (named rs last) 0 (item r d) ≡ 1) ↔ (Stated rs last r × (d ≤ rule_number rs r 2))
  named-item r d p q = (
    λ e. ⊎_elim (λ f. absurd f) (λ (s, l, (t, b)). stated s l t b) ((named_mask.bits (item r d)).0 e),
    λ (s, l). (named_mask.bits (item r d)).1 (inr (r, s.inside, (simp tests (s.used, s.most), inl (d, omega arith, refl)))),
  )
    where
      stated : (s : ℕ) → s < rules_in rs → Asked s → Bits s (item r d)
          → Stated rs last r × (d ≤ rule_number rs r 2)
      stated s l t (inl (f, g, e)) =
          let h = short s l in
          let z : s ≡ r = omega arith in
          let y : d ≤ rule_number rs s 2 = omega arith in
          let (u, v) = simp tests at t in
          subst (λ k. Stated rs last k × (d ≤ rule_number rs k 2)) z (record { inside = l; used = u; most = v }, y)
      stated s l t (inr e) = absurd (omega arith)

  -- their reductions
  pub named_reduction : (r : ℕ) → r < 128 → (has (named rs last) 0 (1024 + r) ≡ 1) ↔ Stated rs last r
  named_reduction r p = (
    λ e. ⊎_elim (λ f. absurd f) (λ (s, l, (t, b)). stated s l t b) ((named_mask.bits (1024 + r)).0 e),
    λ s. (named_mask.bits (1024 + r)).1 (inr (r, s.inside, (simp tests (s.used, s.most), inr refl))),
  )
    where
      stated : (s : ℕ) → s < rules_in rs → Asked s → Bits s (1024 + r) → Stated rs last r
      stated s l t (inl (f, g, e)) = let h = short s l in absurd (omega arith)
      stated s l t (inr e) =
          let z : s ≡ r = omega arith in
          let (u, v) = simp tests at t in
          subst (Stated rs last) z (record { inside = l; used = u; most = v })

-- ---- the start kernel

module _ (rs : List ℕ) (few : rules_in rs ≤ 128) where
  is-start : (r : ℕ) → T (is_start rs r) ↔ ((rule_number rs r 0 ≡ CURRENT) × (rule_number rs r 1 ≡ START))
  unfolding is_start
  is-start r = (λ t. simp tests at t, λ p. simp tests p)

  pub starts_mask : Mask (starts rs) (λ j. (has no_bits 0 j ≡ 1) ⊎ ((r : ℕ) × (r < rules_in rs) × (T (is_start rs r) × (j ≡ r * 8))))
  unfolding starts
  starts_mask =
      let long : 16 ≤ length no_bits = omega (arith, mask_none.long) in record {
        long = starts-length rs no_bits ∙ mask_none.long;
        fit = λ k. starts_fit rs few no_bits long k (mask_none.fit k);
        bits = starts-bits rs few no_bits long;
      }

  pub starts-item : (r d : ℕ) → d < 8 → (has (starts rs) 0 (item r d) ≡ 1) ↔ ((r < rules_in rs) × (d ≡ 0) × (rule_number rs r 0 ≡ CURRENT) × (rule_number rs r 1 ≡ START))
  starts-item r d q = (
    λ e. ⊎_elim (λ f. absurd ((mask_none.bits (item r d)).0 f)) (λ (s, l, (t, b)). found s l t b) ((starts_mask.bits (item r d)).0 e),
    λ (l, z, c, x). (starts_mask.bits (item r d)).1 (inr (r, l, ((is-start r).1 (c, x), omega arith))),
  )
    where
      found : (s : ℕ) → s < rules_in rs → T (is_start rs s) → item r d ≡ s * 8
          → (r < rules_in rs) × (d ≡ 0) × (rule_number rs r 0 ≡ CURRENT) × (rule_number rs r 1 ≡ START)
      found s l t e =
          let z : s ≡ r = omega arith in
          let (u, v) = (is-start s).0 t in
          (omega arith, omega arith, subst (λ k. rule_number rs k 0 ≡ CURRENT) z u, subst (λ k. rule_number rs k 1 ≡ START) z v)
