-- A turn of the loop that joins numbers to test them at once. Assumes nothing.
use mathlib.Core.Path.{◌≡◌, sym, ap, ap₂, ◌∙◌}
use Prim.Native.Nat.{ℕ, ◌+◌}
use native.Mathlib.Numerals.{add-one}
use native.Mathlib.Omega.{arith}
use lib.Bits.{bit_or, or_add_and, and_le_l, and_le_r}
use lib.Dec.{eqb}
use Rattle.laws.specs.Choice.{◌and◌}
use Rattle.laws.specs.Loops.{all_below}
use Rattle.laws.proofs.Tests.{and_both, eqb_iff}
use Rattle.laws.proofs.Chosen.{iff_same}

-- a turn of the loop that joins numbers: none of them is other than zero
pub join_turn : (f : ℕ → ℕ) (a k : ℕ) → eqb a 0 ≡ all_below k (λ j. eqb (f j) 0) → eqb (bit_or a (f k)) 0 ≡ all_below (k + 1) (λ j. eqb (f j) 0)
unfolding all_below
join_turn f a k h = joined a (f k) ∙ ap (λ t. t and eqb (f k) 0) h ∙ ap (λ n. all_below n (λ j. eqb (f j) 0)) (sym (add-one k))
  where
    joined : (a b : ℕ) → eqb (bit_or a b) 0 ≡ eqb a 0 and eqb b 0
    joined a b = iff_same (eqb (bit_or a b) 0) (eqb a 0 and eqb b 0)
        (λ t. let e = (eqb_iff (bit_or a b) 0).0 t in
        (and_both (eqb a 0) (eqb b 0)).1 ((eqb_iff a 0).1 (omega (arith, or_add_and a b, and_le_r a b)), (eqb_iff b 0).1 (omega (arith, or_add_and a b, and_le_l a b))))
        (λ t. let (p, q) = (and_both (eqb a 0) (eqb b 0)).0 t in (eqb_iff (bit_or a b) 0).1 (ap₂ bit_or ((eqb_iff a 0).0 p) ((eqb_iff b 0).0 q)))
