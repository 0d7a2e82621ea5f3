-- Counting the kernels that no set has: one kernel, a walk over the symbols, and the model's count. Assumes nothing.
use mathlib.Core.Bool.{Bool, true, false}
use mathlib.Core.List.{List}
use mathlib.Core.Path.{◌≡◌, refl, sym, ap, subst, ◌∙◌}
use Prim.Native.Nat.{ℕ, ◌+◌, ◌≤◌, zero-le}
use native.Mathlib.Nat.{add-zero}
use native.Mathlib.Omega.{arith}
use lib.Dec.{eqb}
use lib.ListN.{length}
use Rattle.laws.specs.Choice.{when}
use Rattle.laws.specs.Lists.{consIf, keep}
use Rattle.laws.proofs.Chosen.{keep_cong}
use Rattle.kernels.specs.Bits.{Over, GivesBit}
use Rattle.kernels.specs.declared.bits.Bits.{Bits}
use Rattle.kernels.proofs.KernelWalk.{over_still}
use Rattle.std.specs.Prelude.{Some, None}
use Rattle.theory.specs.Expansion.{set_with}
use Rattle.theory.proofs.Kernels.{symbol_range}
use Rattle.table.specs.Layout.{Sets, sets_in, rules_in, kernel_seen, view_rules}
use Rattle.table.specs.Laid.{HoldsKernel}
use Rattle.closure.specs.Walk.{HoldsSymbols}
use Rattle.lookup.specs.Lookup.{kernel_at}
use Rattle.lookup.proofs.SameKernel.{kernel-set}
use Rattle.expansion.specs.Inner.{items_in, symbols_in, sets_seen, kernel_on, lacking_in, Ready}
use Rattle.expansion.specs.Inner.{is_missing, missing_in}
use Rattle.expansion.proofs.Rest.{rest, least, rest-next, rest-none, rest_all, rest_in}

-- ---- one kernel

module _ (rs ws c : List ℕ) (y : ℕ) {key : List ℕ} (is : HoldsKernel (rules_in rs) key 0 (kernel_on rs c y)) where
  -- o is the set found
  module _ {o : ℕ} (found : o ≡ kernel_at (sets_in rs) (rules_in rs) ws (kernel_seen (rules_in rs) key 0)) where
    -- the answer of the test
    pub test-missing : eqb o 0 ≡ is_missing rs ws c y
    test-missing = ap (λ o. eqb o 0) (found ∙ ap (kernel_at (sets_in rs) (rules_in rs) ws) is.seen)

-- ---- all of them

-- n of the symbols that the walk b has passed lead to a kernel that no set has
pub record Counted (rs ws c bits : List ℕ) (b : Bits) (n : ℕ) : Type 0 where
  pub over : Over bits 0 2 b
  pub inside : b.from ≤ 128
  pub small : n ≤ b.from
  pub exact : missing_in rs ws c (symbols_in rs c) ≡ n + missing_in rs ws c (rest bits b.from)

one_more : (b : Bool) (x : ℕ) (l : List ℕ) → length (consIf b x l) ≡ when b 1 0 + length l
unfolding when
one_more true x l = omega arith
one_more false x l = omega arith

module _ (rs ws c bits : List ℕ) (𝓗 : HoldsSymbols bits (view_rules rs) (items_in rs c)) where
  pub count_start : {b : Bits} → Over bits 0 2 b → b.from ≡ 0 → Counted rs ws c bits b 0
  count_start {b} o z = record {
    over = o;
    inside = omega arith;
    small = zero-le;
    exact =
        let e : missing_in rs ws c (symbols_in rs c) ≡ missing_in rs ws c (rest bits b.from) =
        ap (missing_in rs ws c) (rest_all bits (view_rules rs) (items_in rs c) 𝓗 z) in omega arith;
  }

  module _ {b d : Bits} {n : ℕ} (so_far : Counted rs ws c bits b n) where
    pub count-above : {y : ℕ} → GivesBit b (Some y) d → 1 ≤ y
    count-above {y} g = (symbol_range (view_rules rs) (items_in rs c) y (rest_in bits _ _ 𝓗 so_far.over g)).0

    turned : {y k : ℕ} → GivesBit b (Some y) d → when (is_missing rs ws c y) 1 0 ≡ k → k ≤ 1 → Counted rs ws c bits d (n + k)
    turned {y} {k} g one few =
        let l = least so_far.over g in
        let on : d.from ≡ y + 1 = g.on y refl in
        let a : missing_in rs ws c (rest bits b.from) ≡ when (is_missing rs ws c y) 1 0 + missing_in rs ws c (rest bits d.from) =
        ap (missing_in rs ws c) (rest-next so_far.over g)
        ∙ one_more (is_missing rs ws c y) y (keep (is_missing rs ws c) (rest bits d.from)) in
        record {
          over = over_still so_far.over g;
          inside = omega (arith, l.inside);
          small = omega (arith, l.above, so_far.small);
          exact = omega (arith, so_far.exact);
        }

    pub count_one : {y : ℕ} → GivesBit b (Some y) d → true ≡ is_missing rs ws c y → Counted rs ws c bits d (n + 1)
    unfolding when
    count_one g e = turned g (ap (λ b. when b 1 0) (sym e)) (omega arith)

    pub count_none : {y : ℕ} → GivesBit b (Some y) d → false ≡ is_missing rs ws c y → Counted rs ws c bits d n
    unfolding when
    count_none g e = subst (Counted rs ws c bits d) (add-zero n) (turned g (ap (λ b. when b 1 0) (sym e)) (omega arith))

    pub count-end : GivesBit b None d → n ≡ missing_in rs ws c (symbols_in rs c)
    count-end g =
        let a : missing_in rs ws c (rest bits b.from) ≡ 0 = ap (missing_in rs ws c) (rest-none so_far.over g) in
        omega (arith, so_far.exact)

-- where the sets are laid out and the kernels are not empty, they are as many as the model's
pub missing-lacking : (rs : List ℕ) (x : Sets) (c : List ℕ) → Ready rs x c
    → missing_in rs x.words c (symbols_in rs c) ≡ lacking_in rs c (symbols_in rs c) (sets_seen rs x)
missing-lacking rs x c 𝓡 =
    ap length (keep_cong (is_missing rs x.words c) (λ y. eqb (set_with (sets_seen rs x) (kernel_on rs c y)) 0) (symbols_in rs c)
    (λ y m. ap (λ s. eqb s 0) (kernel-set (sets_in rs) (rules_in rs) x (kernel_on rs c y) 𝓡.sets (𝓡.some y m))))
