-- A kernel taken out of a table holds what it held there. Assumes nothing.
use mathlib.Core.List.{List}
use mathlib.Core.Path.{◌≡◌, refl, sym, subst}
use Prim.Native.Nat.{ℕ, ◌+◌, ◌≤◌}
use native.Mathlib.Omega.{arith}
use lib.ListN.{length, get_or}
use Rattle.kernels.specs.Write.{write_words}
use Rattle.theory.specs.Table.{RulePlace}
use Rattle.theory.specs.Expansion.{closure}
use Rattle.table.specs.Layout.{kernel_seen}
use Rattle.table.specs.Laid.{Within, HoldsKernel}
use Rattle.closure.proofs.Written.{copy_holds}

module _ (n : ℕ) (src : List ℕ) (at : ℕ) (few : n ≤ 128) (inside : Within n src at) (ws : List ℕ) (long : 16 ≤ length ws)
    {kernel : List ℕ} (e : kernel ≡ write_words ws 0 (λ k. get_or src (at + k) 0) 16) where
  copied : HoldsKernel n kernel 0 (kernel_seen n src at)
  copied = subst (λ w. HoldsKernel n w 0 (kernel_seen n src at)) (sym e) (copy_holds ws few (omega arith) (record { seen = refl; within = inside }))

  pub copied_within : Within n kernel 0
  copied_within = copied.within

  pub copied_closure : (rs : List RulePlace) {c : List ℕ} → HoldsKernel n c 0 (closure rs (kernel_seen n kernel 0)) → HoldsKernel n c 0 (closure rs (kernel_seen n src at))
  copied_closure rs {c} h = subst (λ k. HoldsKernel n c 0 (closure rs k)) copied.seen h
