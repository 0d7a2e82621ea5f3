-- WordsFit whose every bit is set in others, bit by bit. Assumes nothing.
use mathlib.Core.Path.{◌≡◌, sym, ap, ap₂, ◌∙◌}
use mathlib.Core.Logic.{◌⊎◌, inl, inr, ◌↔◌}
use mathlib.Core.Bool.{Bool}
use mathlib.Core.List.{List}
use Prim.Native.Nat.{ℕ, ◌+◌, ◌*◌, ◌/◌, ◌%◌, ◌^◌, ◌<◌}
use native.Mathlib.Omega.{arith}
use lib.Bits.{bit_or, or_lt}
use lib.Dec.{T, eqb}
use lib.ListN.{get_or}
use Rattle.laws.proofs.Tests.{eqb_iff, all-below}
use Rattle.kernels.specs.Bit.{bit}
use Rattle.kernels.specs.Kernel.{has, within}
use Rattle.kernels.proofs.Bit.{bit-cases, bit-bit_or, word_ext}
use Rattle.kernels.proofs.Kernel.{has-at}

-- every bit of the n words from i of a is set in the n words from j of b
abbrev pub Subset : List ℕ → ℕ → List ℕ → ℕ → ℕ → Type 0
Subset a i b j n = (k : ℕ) → k < n * 64 → has a i k ≡ 1 → has b j k ≡ 1

-- the n words from `at` on are words
abbrev pub WordsFit : List ℕ → ℕ → ℕ → Type 0
WordsFit ws at n = (k : ℕ) → k < n → get_or ws (at + k) 0 < 2 ^ 64

-- ---- one word

or_set : (x y : ℕ) → (x ≡ 0) ⊎ (x ≡ 1) → (y ≡ 0) ⊎ (y ≡ 1) → bit_or x y ≡ y → x ≡ 1 → y ≡ 1
or_set x y p (inr e) q h = e
or_set x y p (inl e) q h = let z : bit_or x y ≡ 1 = ap₂ bit_or h e in omega arith

or_same : (x y : ℕ) → (x ≡ 0) ⊎ (x ≡ 1) → (y ≡ 0) ⊎ (y ≡ 1) → (x ≡ 1 → y ≡ 1) → bit_or x y ≡ y
or_same x y (inl d) (inl e) h = ap₂ bit_or d e ∙ sym e
or_same x y (inl d) (inr e) h = ap₂ bit_or d e ∙ sym e
or_same x y (inr d) (inl e) h = absurd (omega (arith, h d))
or_same x y (inr d) (inr e) h = ap₂ bit_or d e ∙ sym e

-- v adds no bit to w exactly if each of its bits is set there
word_within : (v w : ℕ) → v < 2 ^ 64 → w < 2 ^ 64 → (bit_or v w ≡ w) ↔ ((k : ℕ) → k < 64 → bit v k ≡ 1 → bit w k ≡ 1)
word_within v w p q = (
  λ e k l. or_set (bit v k) (bit w k) (bit-cases v k) (bit-cases w k) (sym (bit-bit_or v w k) ∙ ap (λ x. bit x k) e),
  λ h. word_ext 64 (bit_or v w) w (or_lt 64 v w p q) q (λ k l. bit-bit_or v w k ∙ or_same (bit v k) (bit w k) (bit-cases v k) (bit-cases w k) (h k l)),
)

-- ---- n words

module _ (a : List ℕ) (i : ℕ) (b : List ℕ) (j n : ℕ) where
  pub within_iff : WordsFit a i n → WordsFit b j n → T (within a i b j n) ↔ Subset a i b j n
  unfolding within has
  within_iff fa fb =
      let f : ℕ → Bool = λ k. eqb (bit_or (get_or a (i + k) 0) (get_or b (j + k) 0)) (get_or b (j + k) 0) in (
        λ t k l. let m : k / 64 < n = omega arith in
            (word_within (get_or a (i + k / 64) 0) (get_or b (j + k / 64) 0) (fa (k / 64) m) (fb (k / 64) m)).0
            ((eqb_iff _ _).0 ((all-below n f).0 t (k / 64) m)) (k % 64) (omega arith),
        λ h. (all-below n f).1 (λ k l. (eqb_iff _ _).1
            ((word_within (get_or a (i + k) 0) (get_or b (j + k) 0) (fa k l) (fb k l)).1
            (λ m p e. sym (has-at b j k m p) ∙ h (k * 64 + m) (omega arith) (has-at a i k m p ∙ e)))),
      )
