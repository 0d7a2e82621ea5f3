-- The start kernel put into words: which bits they have then, and what is left alone. Assumes nothing.
use mathlib.Core.Path.{◌≡◌, refl, ◌∙◌}
use mathlib.Core.Logic.{◌↔◌, ◌⊎◌}
use mathlib.Core.List.{List}
use Prim.Native.Nat.{ℕ, zero, suc, ◌*◌, ◌^◌, ◌≤◌, ◌<◌}
use native.Mathlib.Nat.{le_refl}
use native.Mathlib.Omega.{arith}
use lib.Dec.{T}
use lib.ListN.{length, get_or}
use Rattle.laws.specs.Loops.{up_to}
use Rattle.laws.proofs.Choice.{when-cases}
use Rattle.kernels.specs.Kernel.{has, put_if}
use Rattle.kernels.proofs.Kernel.{put_out, word-put}
use Rattle.kernels.proofs.Puts.{length-put_if, has-put_if, fold_length, fold-bits}
use Rattle.table.specs.Layout.{rules_in}
use Rattle.table.specs.Start.{is_start, put_start, put_starts}

module _ (rs : List ℕ) where
  start-length : (r : ℕ) (w : List ℕ) → length (put_start rs r w) ≡ length w
  unfolding put_start
  start-length r w = length-put_if (is_start rs r) w (r * 8)

  pub starts-length : (w : List ℕ) → length (put_starts rs w) ≡ length w
  unfolding put_starts
  starts-length w = fold_length (put_start rs) start-length w (rules_in rs)

  module _ (few : rules_in rs ≤ 128) where
    -- START's items, and what was there before
    pub starts-bits : (w : List ℕ) → 16 ≤ length w → (j : ℕ)
        → (has (put_starts rs w) 0 j ≡ 1) ↔ ((has w 0 j ≡ 1) ⊎ ((r : ℕ) × (r < rules_in rs) × (T (is_start rs r) × (j ≡ r * 8))))
    unfolding put_starts put_start
    starts-bits w long j =
        fold-bits (put_start rs) start-length w (λ r j. T (is_start rs r) × (j ≡ r * 8)) (rules_in rs)
        (λ r l v e j. has-put_if (is_start rs r) v (r * 8) j (λ t. omega arith)) (rules_in rs) (le_refl (rules_in rs)) j

    beyond : (n : ℕ) → n ≤ 128 → (w : List ℕ) (p : ℕ) → 16 ≤ p → get_or (up_to n (put_start rs) w) p 0 ≡ get_or w p 0
    unfolding up_to put_start put_if
    beyond zero few w p h = refl
    beyond (suc n) few w p h =
        when-cases (λ (y : List ℕ). get_or y p 0 ≡ get_or w p 0) (is_start rs n)
        (λ e. put_out (up_to n (put_start rs) w) 0 (n * 8) p (λ z. omega arith) ∙ beyond n (omega arith) w p h) (λ e. beyond n (omega arith) w p h)

    -- the words beyond a kernel's 16
    pub starts-beyond : (w : List ℕ) (p : ℕ) → 16 ≤ p → get_or (put_starts rs w) p 0 ≡ get_or w p 0
    unfolding put_starts
    starts-beyond w p h = beyond (rules_in rs) few w p h

    fit : (n : ℕ) → n ≤ 128 → (w : List ℕ) → 16 ≤ length w → (p : ℕ) → get_or w p 0 < 2 ^ 64 → get_or (up_to n (put_start rs) w) p 0 < 2 ^ 64
    unfolding up_to put_start put_if
    fit zero few w long p f = f
    fit (suc n) few w long p f =
        when-cases (λ (y : List ℕ). get_or y p 0 < 2 ^ 64) (is_start rs n)
        (λ e. word-put (up_to n (put_start rs) w) 0 (n * 8) (omega (arith, fold_length (put_start rs) start-length w n)) p (fit n (omega arith) w long p f))
        (λ e. fit n (omega arith) w long p f)

    -- words stay words
    pub starts_fit : (w : List ℕ) → 16 ≤ length w → (p : ℕ) → get_or w p 0 < 2 ^ 64 → get_or (put_starts rs w) p 0 < 2 ^ 64
    unfolding put_starts
    starts_fit w long p f = fit (rules_in rs) few w long p f
