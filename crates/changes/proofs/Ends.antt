-- What a path of the code has made, in the words of specs/Touch.antt. Assumes nothing.
use mathlib.Core.List.{List}
use mathlib.Core.Path.{◌≡◌, refl, ap, ap₂, ◌∙◌}
use mathlib.Core.Logic.{◌≢◌}
use Prim.Native.Nat.{ℕ, ◌+◌, ◌*◌, ◌≤◌}
use native.Mathlib.Omega.{arith}
use lib.ListN.{length, set}
use borrow.Author.Tests.{eq-eqb, ne_eqb}
use Rattle.laws.proofs.Choice.{when_yes, when_no}
use Rattle.symbols.specs.Symbol.{START}
use Rattle.kernels.specs.Write.{write_words}
use Rattle.table.specs.Layout.{Sets, sets, sets_in, cell}
use Rattle.table.specs.Laid.{Sized, HasRow}
use Rattle.table.specs.Start.{put_starts}
use Rattle.changes.specs.Touch.{unexpand, unexpand_if, unexpand_all, start_again, touched_by}
use Rattle.changes.proofs.Unexpanded.{bare-is}

pub unexpand-made : (s : ℕ) (c w c₁ c₂ w₁ : List ℕ) → HasRow s (sets c w)
    → c₁ ≡ write_words c (s * 128) (λ k. 0) 128 → c₂ ≡ set c₁ (s * 128) 1 → w₁ ≡ write_words w (s * 18 + 16) (λ k. 0) 2 → sets c₂ w₁ ≡ unexpand s (sets c w)
unfolding unexpand
unexpand-made s c w c₁ c₂ w₁ h a b d = ap₂ sets (b ∙ ap (λ y. set y (s * 128) 1) a ∙ bare-is c (s * 128) h.cells) d

module _ (left s : ℕ) (x : Sets) where
  pub if_leads : {y : Sets} → cell x s left ≢ 0 → y ≡ unexpand s x → y ≡ unexpand_if left s x
  unfolding unexpand_if
  if_leads d h = when_no x (ne_eqb _ _ d) h

  pub if_not : cell x s left ≡ 0 → x ≡ unexpand_if left s x
  unfolding unexpand_if
  if_not e = when_yes (unexpand s x) (eq-eqb _ _ e) refl

pub start-made : (rs c w c₁ c₂ w₁ w₂ : List ℕ) → Sized rs (sets c w)
    → c₁ ≡ write_words c 0 (λ k. 0) 128 → c₂ ≡ set c₁ 0 1 → w₁ ≡ write_words w 0 (λ k. 0) 18 → w₂ ≡ put_starts rs w₁ → sets c₂ w₂ ≡ start_again rs (sets c w)
unfolding start_again
start-made rs c w c₁ c₂ w₁ w₂ h a b d e =
    let long : 0 + 128 ≤ length c = let p = h.some_sets in let q = h.cells in omega arith in
    ap₂ sets (b ∙ ap (λ y. set y 0 1) a ∙ bare-is c 0 long) (e ∙ ap (put_starts rs) d)

module _ (rs : List ℕ) (left : ℕ) (x : Sets) {y : Sets} where
  pub touch_start : left ≡ START → y ≡ start_again rs x → y ≡ touched_by rs left x
  unfolding touched_by
  touch_start e h = when_yes (unexpand_all (sets_in rs) left x) (eq-eqb _ _ e) h

  pub touch_other : {n : ℕ} → left ≢ START → n ≡ sets_in rs → y ≡ unexpand_all n left x → y ≡ touched_by rs left x
  unfolding touched_by
  touch_other d e h = when_no (start_again rs x) (ne_eqb _ _ d) (h ∙ ap (λ n. unexpand_all n left x) e)
