-- Kernels of the same words are seen alike, and kernels that are seen alike have the same words. Assumes nothing.
use mathlib.Core.List.{List}
use mathlib.Core.Path.{◌≡◌, sym, ◌∙◌}
use mathlib.Core.Logic.{◌↔◌}
use Prim.Native.Nat.{ℕ, ◌*◌, ◌≤◌}
use native.Mathlib.Decide.{dec_lt}
use native.Mathlib.Omega.{arith}
use lib.Dec.{T}
use Rattle.kernels.specs.Kernel.{same}
use Rattle.kernels.proofs.Kernel.{Words, same_iff, agree_has, has_agree}
use Rattle.table.specs.Layout.{kernel_seen}
use Rattle.table.specs.Laid.{Within}
use Rattle.table.proofs.Once.{kernel_bits}
use Rattle.table.proofs.Rows.{kernel_cong}

pub same_seen : (n : ℕ) (a : List ℕ) (i : ℕ) (b : List ℕ) (j : ℕ) → n ≤ 128 → Words a i → Words b j → Within n a i → Within n b j
    → T (same a i b j) ↔ (kernel_seen n a i ≡ kernel_seen n b j)
same_seen n a i b j few fa fb wa wb = (
  λ t. kernel_cong n a i b j (λ k l. agree_has a i b j ((same_iff a i b j).0 t) k (omega arith)),
  λ e. (same_iff a i b j).1 (has_agree a i b j fa fb
      (λ k l. elim (dec_lt k (n * 8)) [ yes h ↦ kernel_bits n a i b j e k h | no g ↦ wa k (omega arith) l ∙ sym (wb k (omega arith) l) ])),
)
