-- What the tests of sets say of the numbers. Assumes nothing.
use mathlib.Core.Path.{◌≡◌, sym, ap, subst, ◌∙◌}
use mathlib.Core.Logic.{◌↔◌, ◌≢◌}
use mathlib.Core.Bool.{Bool}
use mathlib.Core.List.{List}
use Prim.Native.Nat.{ℕ, ◌+◌, ◌-◌, ◌*◌, ◌^◌, ◌≤◌, ◌<◌}
use native.Mathlib.Decide.{dec_lt}
use native.Mathlib.Omega.{arith}
use lib.Dec.{T, eqb}
use lib.ListN.{get_or}
use lib.Pow.{pow_pos}
use Rattle.laws.proofs.Tests.{and_both, eqb_iff, ltb_iff, all-below, where_passes, where_fails, not_eqb}
use Rattle.kernels.specs.Bit.{bit}
use Rattle.kernels.specs.Kernel.{within, empty}
use Rattle.kernels.proofs.Bit.{bit_of-zero, word_ext}
use Rattle.kernels.proofs.Kernel.{has-at}
use Rattle.table.specs.Layout.{Sets, cell, bit_of}
use Rattle.form.specs.Sets.{zeros, bare_fits, target_fits, targets_fit}

-- ---- the 127 targets

-- a cell of a set's row, counted from its first target
from_one : (f : ℕ → Type 0) → ((k : ℕ) → k < 127 → f (1 + k)) ↔ ((k : ℕ) → 1 ≤ k → k < 128 → f k)
from_one f = (
  λ h k p q. let e : 1 + (k - 1) ≡ k = omega arith in subst f e (h (k - 1) (omega arith)),
  λ h k l. h (1 + k) (omega arith) (omega arith),
)

module _ (S : ℕ) (x : Sets) (current : List ℕ) (only : Bool) where
  -- t is the number of a set in use, and its kernel names current rules only where that is asked
  pub record Led (t : ℕ) : Type 0 where
    pub inside : t < S
    pub used : cell x t 0 ≢ 0
    pub names : T only → T (within x.words (t * 18) current 0 16)

  target-says : (t : ℕ) → T (target_fits S x current only t) ↔ (t ≢ 0 → Led t)
  unfolding target_fits
  target-says t = (
    λ p d.
        let q = (where_fails (eqb t 0) _).0 p (λ z. d ((eqb_iff t 0).0 z)) in
        let (a, r) = (and_both _ _).0 q in
        let (b, c) = (and_both _ _).0 r in
        record { inside = (ltb_iff t S).0 a; used = (not_eqb (cell x t 0) 0).0 b; names = (where_passes only _).0 c },
    λ h. (where_fails (eqb t 0) _).1 (λ n. let l = h (λ e. n ((eqb_iff t 0).1 e)) in
        (and_both _ _).1 ((ltb_iff t S).1 l.inside, (and_both _ _).1 ((not_eqb (cell x t 0) 0).1 l.used, (where_passes only _).1 l.names))),
  )

  pub targets_say : (s : ℕ) → T (targets_fit S x current only s) ↔ ((k : ℕ) → 1 ≤ k → k < 128 → cell x s k ≢ 0 → Led (cell x s k))
  unfolding targets_fit
  targets_say s = (
    λ t. (from_one (λ k. cell x s k ≢ 0 → Led (cell x s k))).0 (λ k l. (target-says (cell x s (1 + k))).0 ((all-below 127 _).0 t k l)),
    λ h. (all-below 127 _).1 (λ k l. (target-says (cell x s (1 + k))).1 ((from_one (λ k. cell x s k ≢ 0 → Led (cell x s k))).1 h k l)),
  )

-- ---- a set that is not expanded

module _ (x : Sets) (s : ℕ) where
  zeros_say : T (zeros x.cells (s * 128 + 1) 127) ↔ ((k : ℕ) → 1 ≤ k → k < 128 → cell x s k ≡ 0)
  unfolding zeros
  zeros_say = (
    λ t. (from_one (λ k. cell x s k ≡ 0)).0 (λ k l. let e : s * 128 + 1 + k ≡ s * 128 + (1 + k) = omega arith in
        subst (λ j. get_or x.cells j 0 ≡ 0) e ((eqb_iff _ 0).0 ((all-below 127 _).0 t k l))),
    λ h. (all-below 127 _).1 (λ k l. let e : s * 128 + (1 + k) ≡ s * 128 + 1 + k = omega arith in
        (eqb_iff _ 0).1 (subst (λ j. get_or x.cells j 0 ≡ 0) e (h (1 + k) (omega arith) (omega arith)))),
  )

  pub record Bare : Type 0 where
    pub targets : (k : ℕ) → 1 ≤ k → k < 128 → cell x s k ≡ 0
    pub low : get_or x.words (s * 18 + 16) 0 ≡ 0
    pub high : get_or x.words (s * 18 + 17) 0 ≡ 0
    pub free : cell x s 0 ≡ 0 → T (empty x.words (s * 18))

  pub bare-says : T (bare_fits x s) ↔ Bare
  unfolding bare_fits
  bare-says = (
    λ t.
        let (a, p) = (and_both _ _).0 t in
        let (b, q) = (and_both _ _).0 p in
        let (c, r) = (and_both _ _).0 q in
        record { targets = zeros_say.0 a; low = (eqb_iff _ 0).0 b; high = (eqb_iff _ 0).0 c; free = λ e. (where_passes _ _).0 r ((eqb_iff (cell x s 0) 0).1 e) },
    λ b. (and_both _ _).1 (
      zeros_say.1 b.targets,
      (and_both _ _).1 (
        (eqb_iff _ 0).1 b.low,
        (and_both _ _).1 (
          (eqb_iff _ 0).1 b.high,
          (where_passes _ _).1 (λ z. b.free ((eqb_iff (cell x s 0) 0).0 z)),
        ),
      ),
    ),
  )

  -- its two words of reductions, bit by bit
  pub reductions-idle : Bare → (r : ℕ) → r < 128 → bit_of x s (1024 + r) ≡ 0
  reductions-idle b r l = elim (dec_lt r 64) [
    | yes h ↦ has-at x.words (s * 18) 16 r h ∙ ap (λ w. bit w r) b.low ∙ bit_of-zero r
    | no h ↦ let e : 17 * 64 + (r - 64) ≡ 1024 + r = omega arith in
        subst (λ j. bit_of x s j ≡ 0) e (has-at x.words (s * 18) 17 (r - 64) (omega arith) ∙ ap (λ w. bit w (r - 64)) b.high ∙ bit_of-zero (r - 64))
  ]

  module _ (idle : (r : ℕ) → r < 128 → bit_of x s (1024 + r) ≡ 0) where
    pub idle-low : get_or x.words (s * 18 + 16) 0 < 2 ^ 64 → get_or x.words (s * 18 + 16) 0 ≡ 0
    idle-low f = word_ext 64 _ 0 f (pow_pos 64) (λ j l. sym (has-at x.words (s * 18) 16 j l) ∙ idle j (omega arith) ∙ sym (bit_of-zero j))

    pub idle-high : get_or x.words (s * 18 + 17) 0 < 2 ^ 64 → get_or x.words (s * 18 + 17) 0 ≡ 0
    idle-high f = word_ext 64 _ 0 f (pow_pos 64) (λ j l.
        let e : 1024 + (64 + j) ≡ 17 * 64 + j = omega arith in
        sym (has-at x.words (s * 18) 17 j l) ∙ subst (λ i. bit_of x s i ≡ 0) e (idle (64 + j) (omega arith)) ∙ sym (bit_of-zero j))
