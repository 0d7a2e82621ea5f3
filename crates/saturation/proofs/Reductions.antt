-- The walk over the reductions of a set, 2 words behind its kernel's 16. Assumes nothing.
use mathlib.Core.Path.{◌≡◌, sym, ap₂, ◌∙◌}
use mathlib.Core.List.{List}
use Prim.Native.Nat.{ℕ, ◌+◌, ◌*◌, ◌/◌, ◌%◌, ◌≤◌, ◌<◌}
use native.Mathlib.Omega.{arith}
use lib.ListN.{get_or}
use Rattle.std.specs.Prelude.{Some, None}
use Rattle.kernels.specs.Bit.{bit}
use Rattle.kernels.specs.Kernel.{has}
use Rattle.kernels.specs.Bits.{Over, GivesBit}
use Rattle.kernels.specs.declared.bits.Bits.{Bits}
use Rattle.kernels.proofs.KernelWalk.{over-next}
use Rattle.saturation.specs.Wanted.{FirstRule}

-- a bit of these is a bit of the set's 18 words
has-behind : (ws : List ℕ) (at j : ℕ) → has ws (at + 16) j ≡ has ws at (1024 + j)
unfolding has
has-behind ws at j =
    let place : at + 16 + j / 64 ≡ at + (1024 + j) / 64 = omega arith in
    let rest : j % 64 ≡ (1024 + j) % 64 = omega arith in
    ap₂ (λ p b. bit (get_or ws p 0) b) place rest

module _ {ws : List ℕ} (u : ℕ) {b d : Bits} (o : Over ws (u * 18 + 16) 2 b) where
  pub first_rule : {r : ℕ} → GivesBit b (Some r) d → FirstRule ws u b.from r
  first_rule {r} g =
      let n = over-next o g in
      let most : r < 128 = n.inside in
      record { low = n.above; most = most; none = λ j l h. sym (has-behind ws (u * 18) j) ∙ n.none j l h; hit = sym (has-behind ws (u * 18) r) ∙ n.there }

  pub no_rule : GivesBit b None d → (j : ℕ) → b.from ≤ j → j < 128 → has ws (u * 18) (1024 + j) ≡ 0
  no_rule g j l h = sym (has-behind ws (u * 18) j) ∙ over-next o g j l h
