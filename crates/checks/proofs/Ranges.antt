-- `(0..n).find(test)` is `Lowest`. Assumes nothing.
use mathlib.Core.Path.{◌≡◌, refl, sym, ap, ◌∙◌}
use mathlib.Core.Bool.{Bool, true, false}
use mathlib.Core.List.{List}
use Prim.Native.Nat.{ℕ, zero, suc, ◌+◌, ◌≤◌, ◌<◌}
use native.Mathlib.Omega.{arith}
use denote.Param.Members.{Mut}
use denote.Ref.{Bor}
use native.Mathlib.Decide.{ℕ_discrete}
use Rattle.std.proofs.iter.Yields.{nat_range_steps}
use Rattle.std.specs.Bool.{⊤}
use Rattle.std.specs.Fn.{CalledAt}
use Rattle.std.specs.Iterator.{YieldsThen}
use Rattle.std.specs.List.{FoldsTo}
use Rattle.std.specs.Option.{MatchOption}
use Rattle.std.specs.Prelude.{Option, Some, None}
use Rattle.std.specs.declared.ops.Range.{Range}
use Rattle.std.proofs.lemmas.Iterator.{first_from_Range}
use Rattle.laws.specs.Lists.{firstIn, up_from}
use Rattle.laws.proofs.Choice.{when_yes, when_no}
use Rattle.checks.specs.Find.{Lowest}

module _ (test : ℕ → Bool) (d : ℕ) where
  none_passes : (n k : ℕ) → ((j : ℕ) → k ≤ j → j < k + n → test j ≡ false) → d ≡ firstIn test d (up_from k n)
  none_passes zero k none = refl
  none_passes (suc n) k none =
      when_no k (none k (omega arith) (omega arith)) (none_passes n (suc k) (λ j l h. none j (omega arith) (omega arith)))

  first_passes : (n k i : ℕ) → k ≤ i → i < k + n → test i ≡ true → ((j : ℕ) → k ≤ j → j < i → test j ≡ false) → i ≡ firstIn test d (up_from k n)
  first_passes zero k i l h e none = absurd (omega arith)
  first_passes (suc n) k i l h e none = elim (ℕ_discrete i k) [
    | yes q ↦ when_yes (firstIn test d (up_from (suc k) n)) (ap test (sym q) ∙ e) q
    | no q ↦ when_no k (none k (omega arith) (omega arith)) (first_passes n (suc k) i (omega arith) (omega arith) e (λ j a b. none j (omega arith) b))
  ]

pub lowest_from_find : {F : Type 0} {g : Mut F (Bor ℕ × Unit {0}) Bool} {s : Range ℕ} {f : F} (test : ℕ → Bool) (u : Range ℕ) (r : Option ℕ) {b n : ℕ}
    → (xs : List ℕ) × (j : F) × YieldsThen nat_range_steps s xs r u × FoldsTo (λ p x q. CalledAt g p x false q) f xs j
    × MatchOption r ⊤ (λ x. (h : F) × CalledAt g j x true h)
    → s ≡ record { start = 0; end = b } → b ≡ n
    → ((x : ℕ) (t : Bool) (q : F) → CalledAt g f x t q → (q ≡ f) × (t ≡ test x))
    → Lowest n test r
lowest_from_find {F} {g} {s} {f} test u r {b} {n} ran e l calls =
    says r (first_from_Range s u f r (λ x. test x ≡ true) (λ x. test x ≡ false) ran (λ x q k. sym (calls x true q k).1) (λ x q k. ((calls x false q k).0, sym (calls x false q k).1)))
  where
    start : s.start ≡ 0
    start = ap (λ t. t.start) e

    end : s.end ≡ n
    end = ap (λ t. t.end) e ∙ l

    says : (o : Option ℕ)
        → MatchOption o ((k : ℕ) → s.start ≤ k → k < s.end → test k ≡ false)
        (λ i. (s.start ≤ i) × (i < s.end) × (test i ≡ true) × ((k : ℕ) → s.start ≤ k → k < i → test k ≡ false))
        → Lowest n test o
    says None none = sym (none_passes test n n 0 (λ j a h. none j (omega (arith, start)) (omega (arith, end))))
    says (Some i) (a, h, t, none) =
        (omega (arith, end), first_passes test n n 0 i (omega arith) (omega (arith, end)) t (λ j p q. none j (omega (arith, start)) q))
