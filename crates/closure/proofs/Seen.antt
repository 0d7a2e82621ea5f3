-- The list of items that words hold: that it is ascending, and which bit is which item. Assumes nothing.
use mathlib.Core.Path.{◌≡◌, sym, ap, ◌∙◌}
use mathlib.Core.Logic.{◌↔◌}
use mathlib.Core.List.{List, Memᴰ as In}
use Prim.Native.Nat.{ℕ, ◌+◌, ◌*◌, ◌/◌, ◌%◌, ◌<◌}
use native.Mathlib.Decide.{dec_lt}
use native.Mathlib.Omega.{arith}
use Rattle.kernels.specs.Kernel.{has, holds}
use Rattle.theory.proofs.Items.{Ascends, kept_ascends}
use Rattle.table.specs.Layout.{kernel_seen}
use Rattle.table.specs.Laid.{Within}
use Rattle.table.proofs.Read.{in_seen}
use Rattle.closure.specs.Item.{item_at}

module _ (n : ℕ) (ws : List ℕ) (at : ℕ) where
  pub seen_ascends : Ascends n (kernel_seen n ws at)
  unfolding kernel_seen
  seen_ascends = kept_ascends n (λ i. holds ws at (i.rule * 8 + i.dot))

  -- a bit of the kernel, as an item
  pub bit-inside : Within n ws at → (i : ℕ) → i < 1024 → has ws at i ≡ 1 → i < n * 8
  bit-inside within i l h = elim (dec_lt i (n * 8)) [ yes p ↦ p | no p ↦ absurd (omega (arith, within i (omega arith) l, h)) ]

  pub bit-item : (i : ℕ) → i < n * 8 → (has ws at i ≡ 1) ↔ In (item_at i) (kernel_seen n ws at)
  bit-item i l =
      let e : i / 8 * 8 + i % 8 ≡ i = omega arith in (
        λ h. (in_seen n ws at (i / 8) (i % 8)).1 ((omega arith, omega arith), ap (has ws at) e ∙ h),
        λ m. ap (has ws at) (sym e) ∙ ((in_seen n ws at (i / 8) (i % 8)).0 m).1,
      )
