-- A turn of the two freeing loops, as the code comes to it. Assumes nothing.
use mathlib.Core.Bool.{Bool, true, false}
use mathlib.Core.List.{List}
use mathlib.Core.Path.{◌≡◌, refl, sym, ap, ap₂, ◌∙◌}
use mathlib.Core.Logic.{◌≢◌}
use Prim.Native.Nat.{ℕ, ◌+◌, ◌*◌}
use native.Mathlib.Omega.{arith}
use borrow.Author.Tests.{eq-eqb, ne_eqb}
use lib.ListN.{get_or}
use Rattle.laws.proofs.Choice.{when_yes, when_no}
use Rattle.kernels.specs.Kernel.{holds}
use Rattle.kernels.specs.Write.{write_words}
use Rattle.table.specs.Layout.{sets, rule_number}
use Rattle.collection.specs.Sweep.{free_row, free_unmarked, free_withdrawn}

module _ (marks : List ℕ) (s : ℕ) (c w : List ℕ) {b : Bool} (e : b ≡ holds marks 0 s) where
  pub set_stays : b ≡ true → sets c w ≡ free_unmarked marks s (sets c w)
  unfolding free_unmarked
  set_stays h = when_yes (free_row s (sets c w)) (sym e ∙ h) refl

  pub set-freed : b ≡ false → {c' w' : List ℕ} → c' ≡ write_words c (s * 128) (λ k. 0) 128 → w' ≡ write_words w (s * 18) (λ k. 0) 18
      → sets c' w' ≡ free_unmarked marks s (sets c w)
  unfolding free_unmarked free_row
  set-freed h p q = when_no (sets c w) (sym e ∙ h) (ap₂ sets p q)

module _ (r : ℕ) (rs : List ℕ) where
  state-at : get_or rs (2 + r * 10) 0 ≡ rule_number rs r 0
  state-at = ap (λ p. get_or rs p 0) (omega arith)

  pub rule-freed : {rs' : List ℕ} → get_or rs (2 + r * 10) 0 ≡ 2 → rs' ≡ write_words rs (2 + r * 10) (λ k. 0) 10 → rs' ≡ free_withdrawn r rs
  unfolding free_withdrawn
  rule-freed h p = when_yes rs (eq-eqb (rule_number rs r 0) 2 (sym state-at ∙ h)) p

  pub rule_stays : get_or rs (2 + r * 10) 0 ≢ 2 → rs ≡ free_withdrawn r rs
  unfolding free_withdrawn
  rule_stays h = when_no (write_words rs (2 + r * 10) (λ k. 0) 10) (ne_eqb (rule_number rs r 0) 2 (λ z. h (state-at ∙ z))) refl
