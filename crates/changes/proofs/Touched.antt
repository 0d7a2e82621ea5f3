-- The sets that a change of a rule touches, on the numbers and in the model. Assumes nothing.
use mathlib.Core.Bool.{Bool, true, false}
use mathlib.Core.List.{List, map}
use mathlib.Core.Path.{◌≡◌, sym, subst, ◌∙◌}
use Prim.Native.Nat.{ℕ, ◌≤◌, ◌<◌}
use native.Mathlib.Decide.{ℕ_discrete}
use native.Mathlib.Omega.{arith}
use lib.Dec.{eqb}
use lib.ListN.{set}
use Rattle.laws.specs.Choice.{when}
use Rattle.laws.proofs.Choice.{when-cases}
use Rattle.laws.proofs.Chosen.{tab_cong, set_tab, map_tab}
use Rattle.symbols.specs.Symbol.{START}
use Rattle.theory.specs.Table.{free_set, unexpanded, start_kernel}
use Rattle.theory.specs.Calls.{touched}
use Rattle.table.specs.Layout.{Sets, sets_in, rules_in, set_seen, view_rules, view_sets}
use Rattle.table.specs.Laid.{Sized, LaidSet, HasRow}
use Rattle.table.proofs.Rows.{SameRow, SameSize, row_seen, row_laid, row_in}
use Rattle.changes.specs.Touch.{unexpand_all, start_again, touched_by}
use Rattle.changes.proofs.Shut.{shut, all-size, all_seen, all_laid, all-beyond}
use Rattle.changes.proofs.Start.{start-size, start-other, start-laid, start_seen}

module _ (rs : List ℕ) (x : Sets) (z : Sized rs x) (left : ℕ) where
  room₀ : HasRow 0 x
  room₀ = row_in z 0 z.some_sets

  pub touched-size : SameSize (touched_by rs left x) x
  unfolding touched_by
  touched-size =
      when-cases (λ (y : Sets). SameSize y x) (eqb left START) (λ e. start-size rs x z.few_rules room₀) (λ e. all-size left (sets_in rs) x)

  pub touched-beyond : (s : ℕ) → sets_in rs ≤ s → SameRow s (touched_by rs left x) x
  unfolding touched_by
  touched-beyond s h =
      when-cases (λ (y : Sets). SameRow s y x) (eqb left START)
      (λ e. start-other rs x z.few_rules room₀ s (λ q. let a = z.some_sets in omega arith))
      (λ e. all-beyond left (sets_in rs) s x h)

  pub touched-laid : (s : ℕ) → s < sets_in rs → LaidSet (rules_in rs) x s → LaidSet (rules_in rs) (touched_by rs left x) s
  unfolding touched_by
  touched-laid s h l =
      when-cases (λ (y : Sets). LaidSet (rules_in rs) y s) (eqb left START)
      (λ e. elim (ℕ_discrete s 0) [
        | yes d ↦ subst (λ k. LaidSet (rules_in rs) (start_again rs x) k) (sym d) (start-laid rs x z.few_rules room₀)
        | no d ↦ row_laid (rules_in rs) s (start_again rs x) x (start-other rs x z.few_rules room₀ s d) l
      ])
      (λ e. all_laid left (rules_in rs) (sets_in rs) s x h (row_in z s h) l)

  pub touched-view : 1 ≤ left → left ≤ 127 → view_sets (sets_in rs) (rules_in rs) (touched_by rs left x) ≡ touched (view_rules rs) left (view_sets (sets_in rs) (rules_in rs) x)
  unfolding touched_by
  touched-view p q = go (eqb left START)
    where
      go : (b : Bool) → view_sets (sets_in rs) (rules_in rs) (when b (start_again rs x) (unexpand_all (sets_in rs) left x))
          ≡ when b (set (view_sets (sets_in rs) (rules_in rs) x) 0 (unexpanded (start_kernel (view_rules rs)))) (map (shut left) (view_sets (sets_in rs) (rules_in rs) x))
      go true = unfold when in
          sym (set_tab (sets_in rs) 0 (set_seen (rules_in rs) x) (set_seen (rules_in rs) (start_again rs x)) (unexpanded (start_kernel (view_rules rs))) free_set z.some_sets
          (start_seen rs x z.few_rules room₀)
          (λ j l d. row_seen (rules_in rs) j (start_again rs x) x z.few_rules (start-other rs x z.few_rules room₀ j d)))
      go false = unfold when in
          (tab_cong (sets_in rs) (set_seen (rules_in rs) (unexpand_all (sets_in rs) left x)) (λ s. shut left (set_seen (rules_in rs) x s))
          (λ s l. all_seen left (rules_in rs) (sets_in rs) s x z.few_rules p (omega arith) l (row_in z s l))
          ∙ sym (map_tab (sets_in rs) (shut left) (set_seen (rules_in rs) x)))
