-- Every withdrawn rule number becomes free: what stands in each rule's ten numbers then, and the table that it is. Assumes nothing.
use mathlib.Core.Bool.{Bool, true, false}
use mathlib.Core.List.{List, map}
use mathlib.Core.Path.{◌≡◌, refl, sym, ap, subst, ◌∙◌}
use mathlib.Core.Logic.{◌⊎◌, inl, inr, ⊎_elim}
use Prim.Native.Nat.{ℕ, zero, suc, ◌+◌, ◌*◌, ◌≤◌, ◌<◌}
use native.Mathlib.Nat.{not-suc-le-zero}
use native.Mathlib.Decide.{ℕ_discrete}
use native.Mathlib.Omega.{arith}
use lib.Dec.{eqb}
use lib.ListN.{length, get_or}
use Rattle.laws.specs.Choice.{when}
use Rattle.laws.specs.Loops.{up_to, tab}
use Rattle.laws.proofs.Choice.{when-cases}
use Rattle.laws.proofs.Chosen.{tab_cong, map_tab}
use Rattle.kernels.specs.Write.{write_words}
use Rattle.kernels.proofs.Write.{length_write, write_in, write_out}
use Rattle.theory.specs.Table.{free_rule}
use Rattle.theory.specs.Expansion.{freed}
use Rattle.table.specs.Layout.{rules_in, rule_number, rule_seen, view_rules}
use Rattle.table.specs.Laid.{LaidRule}
use Rattle.table.proofs.RuleNumbers.{SameTen, ten_seen, ten_laid, zeros-laid, zeros-seen}
use Rattle.collection.specs.Sweep.{free_withdrawn}

-- all ten numbers of rule r are zero
abbrev pub ZeroTen : ℕ → List ℕ → Type 0
ZeroTen r a = (k : ℕ) → k < 10 → rule_number a r k ≡ 0

-- ---- one turn

turn_long : (r : ℕ) (rs : List ℕ) → length (free_withdrawn r rs) ≡ length rs
unfolding free_withdrawn
turn_long r rs = when-cases (λ (y : List ℕ). length y ≡ length rs) (eqb (rule_number rs r 0) 2) (λ e. length_write rs (2 + r * 10) (λ k. 0) 10) (λ e. refl)

-- what is not among rule r's ten numbers is as it was
turn_other : (r p : ℕ) (rs : List ℕ) → (p < 2 + r * 10) ⊎ (2 + r * 10 + 10 ≤ p) → get_or (free_withdrawn r rs) p 0 ≡ get_or rs p 0
unfolding free_withdrawn
turn_other r p rs o = when-cases (λ (y : List ℕ). get_or y p 0 ≡ get_or rs p 0) (eqb (rule_number rs r 0) 2) (λ e. write_out rs (2 + r * 10) (λ k. 0) 10 p o) (λ e. refl)

-- ---- all of them

pub freed-long : (n : ℕ) (rs : List ℕ) → length (up_to n free_withdrawn rs) ≡ length rs
unfolding up_to
freed-long zero rs = refl
freed-long (suc n) rs = turn_long n (up_to n free_withdrawn rs) ∙ freed-long n rs

-- the sizes, and what lies beyond
pub freed-other : (n p : ℕ) (rs : List ℕ) → (p < 2) ⊎ (2 + n * 10 ≤ p) → get_or (up_to n free_withdrawn rs) p 0 ≡ get_or rs p 0
unfolding up_to
freed-other zero p rs o = refl
freed-other (suc n) p rs o =
    turn_other n p (up_to n free_withdrawn rs) (⊎_elim (λ l. inl (omega arith)) (λ l. inr (omega arith)) o)
    ∙ freed-other n p rs (⊎_elim (λ l. inl l) (λ l. inr (omega arith)) o)

freed_turn : (n r : ℕ) (rs : List ℕ) → r < n → SameTen r (up_to n free_withdrawn rs) (free_withdrawn r (up_to r free_withdrawn rs))
unfolding up_to
freed_turn zero r rs h k l = absurd (not-suc-le-zero h)
freed_turn (suc n) r rs h k l = elim (ℕ_discrete r n) [
  | yes e ↦ subst (λ j. rule_number (free_withdrawn j (up_to j free_withdrawn rs)) r k ≡ rule_number (free_withdrawn r (up_to r free_withdrawn rs)) r k) e refl
  | no d ↦ turn_other n (2 + r * 10 + k) (up_to n free_withdrawn rs) (inl (omega arith)) ∙ freed_turn n r rs (omega arith) k l
]

module _ (n r : ℕ) (rs : List ℕ) (l : r < n) (long : 2 + n * 10 ≤ length rs) where
  -- its ten numbers are as they were, or zero where it was withdrawn
  rule-after : (b : Bool) → eqb (rule_number rs r 0) 2 ≡ b → when b (ZeroTen r (up_to n free_withdrawn rs)) (SameTen r (up_to n free_withdrawn rs) rs)
  unfolding free_withdrawn when
  rule-after b e =
      let y = up_to r free_withdrawn rs in
      let same : (k : ℕ) → k < 10 → rule_number y r k ≡ rule_number rs r k = λ k h. freed-other r (2 + r * 10 + k) rs (inr (omega arith)) in
      let f : eqb (rule_number y r 0) 2 ≡ b = ap (λ x. eqb x 2) (same 0 (omega arith)) ∙ e in
      let t : (k : ℕ) → k < 10 → rule_number (up_to n free_withdrawn rs) r k ≡ rule_number (when b (write_words y (2 + r * 10) (λ k. 0) 10) y) r k =
      λ k h. freed_turn n r rs l k h ∙ ap (λ b. rule_number (when b (write_words y (2 + r * 10) (λ k. 0) 10) y) r k) f in
      go b t same
    where
      go : (b : Bool)
          → ((k : ℕ) → k < 10 → rule_number (up_to n free_withdrawn rs) r k ≡ rule_number (when b (write_words (up_to r free_withdrawn rs) (2 + r * 10) (λ k. 0) 10) (up_to r free_withdrawn rs)) r k)
          → ((k : ℕ) → k < 10 → rule_number (up_to r free_withdrawn rs) r k ≡ rule_number rs r k)
          → when b (ZeroTen r (up_to n free_withdrawn rs)) (SameTen r (up_to n free_withdrawn rs) rs)
      go true t same = λ k h. t k h ∙ write_in (up_to r free_withdrawn rs) (2 + r * 10) (λ k. 0) 10 k h (omega (arith, freed-long r rs))
      go false t same = λ k h. t k h ∙ same k h

  pub rule-laid : LaidRule rs r → LaidRule (up_to n free_withdrawn rs) r
  unfolding when
  rule-laid h = go (eqb (rule_number rs r 0) 2) (rule-after (eqb (rule_number rs r 0) 2) refl)
    where
      go : (b : Bool) → when b (ZeroTen r (up_to n free_withdrawn rs)) (SameTen r (up_to n free_withdrawn rs) rs) → LaidRule (up_to n free_withdrawn rs) r
      go true z = zeros-laid (up_to n free_withdrawn rs) r z
      go false s = ten_laid (up_to n free_withdrawn rs) rs r s h

  pub rule-freed : rule_number rs r 2 ≤ 7 → rule_seen (up_to n free_withdrawn rs) r ≡ freed (rule_seen rs r)
  unfolding when rule_seen
  rule-freed short = go (eqb (rule_number rs r 0) 2) (rule-after (eqb (rule_number rs r 0) 2) refl)
    where
      go : (b : Bool) → when b (ZeroTen r (up_to n free_withdrawn rs)) (SameTen r (up_to n free_withdrawn rs) rs) → rule_seen (up_to n free_withdrawn rs) r ≡ when b free_rule (rule_seen rs r)
      go true z = zeros-seen (up_to n free_withdrawn rs) r z
      go false s = ten_seen (up_to n free_withdrawn rs) rs r s short

-- the view is the model's table
pub freed-rules : (rs : List ℕ) → 2 + rules_in rs * 10 ≤ length rs → ((r : ℕ) → r < rules_in rs → rule_number rs r 2 ≤ 7)
    → view_rules (up_to (rules_in rs) free_withdrawn rs) ≡ map freed (view_rules rs)
freed-rules rs long short =
    ap (λ n. tab n (rule_seen (up_to (rules_in rs) free_withdrawn rs))) (freed-other (rules_in rs) 1 rs (inl (omega arith)))
    ∙ tab_cong (rules_in rs) (rule_seen (up_to (rules_in rs) free_withdrawn rs)) (λ r. freed (rule_seen rs r)) (λ r l. rule-freed (rules_in rs) r rs l long (short r l))
    ∙ sym (map_tab (rules_in rs) freed (rule_seen rs))
