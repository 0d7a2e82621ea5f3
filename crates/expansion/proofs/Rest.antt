-- The symbols from a number on, as the bits of two words have them: a walk by `kernels::Bits` takes one after the other. Assumes nothing.
use mathlib.Core.Bool.{Bool, true, false}
use mathlib.Core.List.{List, [], ◌∷◌, Memᴰ as In}
use mathlib.Core.Path.{◌≡◌, refl, sym, ap, ap₂, ◌∙◌}
use Prim.Native.Nat.{ℕ, zero, suc, ◌+◌, ◌-◌, ◌≤◌, ◌<◌}
use native.Mathlib.Decide.{ℕ_discrete}
use native.Mathlib.Numerals.{add-one}
use native.Mathlib.Omega.{arith}
use borrow.Author.Tests.{ne_eqb, eq-eqb}
use Rattle.laws.specs.Choice.{when}
use Rattle.laws.specs.Lists.{keep, up_from}
use Rattle.laws.proofs.Lists.{in_up}
use Rattle.laws.proofs.Chosen.{keep_none}
use Rattle.kernels.specs.Kernel.{has, holds, Least}
use Rattle.kernels.specs.Bits.{Over, GivesBit}
use Rattle.kernels.specs.declared.bits.Bits.{Bits}
use Rattle.kernels.proofs.KernelWalk.{over-next}
use Rattle.std.specs.Prelude.{Some, None}
use Rattle.theory.proofs.Kernels.{symbol_range}
use Rattle.theory.specs.Table.{RulePlace, Item}
use Rattle.theory.specs.Expansion.{symbols}
use Rattle.closure.specs.Walk.{HoldsSymbols}
use Rattle.closure.proofs.Written.{symbols-kept}

-- the first number that passes, and those after it
kept_from : (f : ℕ → Bool) (a m i : ℕ) → a ≤ i → i < a + m → ((j : ℕ) → a ≤ j → j < i → f j ≡ false) → f i ≡ true
    → keep f (up_from a m) ≡ i ∷ keep f (up_from (suc i) (a + m - suc i))
unfolding when
kept_from f a zero i p q none here = absurd (omega arith)
kept_from f a (suc m) i p q none here = elim (ℕ_discrete a i) [
  | yes e ↦
      let r : m ≡ a + suc m - suc i = omega arith in
      ap₂ (λ b l. when b (a ∷ l) l) (ap f e ∙ here) (ap₂ (λ j n. keep f (up_from (suc j) n)) e r) ∙ ap (λ j. j ∷ keep f (up_from (suc i) (a + suc m - suc i))) e
  | no d ↦
      let r : suc a + m - suc i ≡ a + suc m - suc i = omega arith in
      ap (λ b. when b (a ∷ keep f (up_from (suc a) m)) (keep f (up_from (suc a) m))) (none a (omega arith) (omega arith))
      ∙ kept_from f (suc a) m i (omega arith) (omega arith) (λ j g h. none j (omega arith) h) here
      ∙ ap (λ n. i ∷ keep f (up_from (suc i) n)) r
]

-- the symbols of the words from `from` on
unfoldable pub rest : List ℕ → ℕ → List ℕ
rest ws from = keep (λ x. holds ws 0 x) (up_from from (128 - from))

-- the walk b over the two words
module _ {ws : List ℕ} {b d : Bits} (o : Over ws 0 2 b) where
  pub least : {i : ℕ} → GivesBit b (Some i) d → Least ws 0 2 b.from i
  least g = over-next o g

  pub rest-next : {i : ℕ} → GivesBit b (Some i) d → rest ws b.from ≡ i ∷ rest ws d.from
  unfolding rest
  rest-next {i} g =
      let l = least g in
      let inside : i < 128 = l.inside in
      let above : b.from ≤ i = l.above in
      let on : d.from ≡ i + 1 = g.on i refl in
      let r : b.from + (128 - b.from) - suc i ≡ 128 - d.from = omega arith in
      kept_from (λ x. holds ws 0 x) b.from (128 - b.from) i above (omega arith) (λ j g h. ne_eqb (has ws 0 j) 1 (λ o. omega (arith, l.none j g h))) (eq-eqb (has ws 0 i) 1 l.there)
      ∙ ap₂ (λ j n. i ∷ keep (λ x. holds ws 0 x) (up_from j n)) (sym (add-one i) ∙ sym on) r

  pub rest-none : GivesBit b None d → rest ws b.from ≡ []
  unfolding rest
  rest-none g =
      let none : (j : ℕ) → b.from ≤ j → j < 128 → has ws 0 j ≡ 0 = over-next o g in
      keep_none (λ x. holds ws 0 x) (up_from b.from (128 - b.from)) (λ j m. let (p, q) = (in_up b.from (128 - b.from)).0 m in ne_eqb (has ws 0 j) 1 (λ o. omega (arith, none j p (omega arith))))

module _ (ws : List ℕ) (rs : List RulePlace) (c : List Item) (h : HoldsSymbols ws rs c) where
  -- from the start on, they are the model's: no symbol is 0
  pub rest_all : {from : ℕ} → from ≡ 0 → symbols rs c ≡ rest ws from
  unfolding rest when
  rest_all z =
      let none : holds ws 0 0 ≡ false = ne_eqb (has ws 0 0) 1 (λ o. let l : 1 ≤ 0 = (symbol_range rs c 0 ((h 0).0 o)).0 in absurd (omega arith)) in
      let others : List ℕ = keep (λ x. holds ws 0 x) (up_from 1 127) in
      symbols-kept ws rs c h ∙ ap (λ b. when b (0 ∷ others) others) (sym none) ∙ ap (rest ws) (sym z)

  pub rest_in : {b d : Bits} {i : ℕ} → Over ws 0 2 b → GivesBit b (Some i) d → In i (symbols rs c)
  rest_in {i = i} o g = (h i).0 (least o g).there
