-- Numbers in form, swept by the marks of what is reached, hold the model's collected table. Assumes nothing.
use mathlib.Core.Bool.{false}
use mathlib.Core.List.{List, map}
use mathlib.Core.Path.{◌≡◌, refl, sym, ap₂, subst, ◌∙◌}
use mathlib.Core.Logic.{inl, inr}
use Prim.Native.Nat.{ℕ, ◌<◌, ◌≤◌}
use native.Mathlib.Omega.{arith}
use lib.ListN.{length, get_or}
use Rattle.laws.specs.Choice.{when}
use Rattle.laws.specs.Loops.{up_to, tab}
use Rattle.laws.proofs.Tests.{eqb_iff}
use Rattle.laws.proofs.Chosen.{iff_same}
use Rattle.kernels.specs.Kernel.{has, holds}
use Rattle.theory.specs.Table.{free_set, set_at}
use Rattle.theory.specs.Expansion.{reached, freed, collected}
use Rattle.theory.specs.Form.{InForm}
use Rattle.theory.proofs.Reach.{marked_reach, reach_marked}
use Rattle.theory.proofs.FormReach.{targets-used}
use Rattle.theory.proofs.FormCollected.{collected-in_form}
use Rattle.table.specs.Layout.{Mem, Sets, sets_in, rules_in, view, view_rules, view_sets}
use Rattle.table.specs.Laid.{LaidSet, Laid, Formed, HasRow}
use Rattle.table.specs.Becomes.{Becomes}
use Rattle.table.proofs.Rows.{SameRow, row_in, cells-beyond, words-beyond}
use Rattle.table.proofs.Formed.{target-inside}
use Rattle.collection.specs.Reach.{Rows, Marks}
use Rattle.collection.specs.Sweep.{free_unmarked, free_withdrawn}
use Rattle.collection.proofs.FreeSets as sets
use Rattle.collection.proofs.FreeRules as rules

module _ (m : Mem) (f : Formed m) where
  abbrev S : ℕ
  S = sets_in m.rules

  abbrev n : ℕ
  n = rules_in m.rules

  -- the form gives what reach asks of the rows
  pub formed_rows : Rows S m.sets.cells
  formed_rows = record {
    some = f.laid.sized.some_sets;
    few = f.laid.sized.few_sets;
    row = λ s l. record { long = omega (arith, f.laid.sized.cells); bare = (f.laid.each_set s l).bare };
    targets = target-inside f;
  }

  -- the marks are the model's
  marks_reached : (marks : List ℕ) → Marks S m.sets.cells marks → (s : ℕ) → s < S → holds marks 0 s ≡ get_or (reached (view m).sets) s false
  marks_reached marks k s l =
      let e = k.exact m.rules m.sets.words refl s in
      iff_same (holds marks 0 s) (get_or (reached (view m).sets) s false)
      (λ t. reach_marked (view m) f.form.start_used (targets-used (view m) f.form) (e.0 ((eqb_iff (has marks 0 s) 1).0 t)))
      (λ t. (eqb_iff (has marks 0 s) 1).1 (e.1 (marked_reach (view m) f.form.start_used (targets-used (view m) f.form) s t)))

  room : (s : ℕ) → s < S → HasRow s m.sets
  room s l = row_in f.laid.sized s l

  module _ (marks : List ℕ) (k : Marks S m.sets.cells marks) where
    rs : List ℕ
    rs = up_to n free_withdrawn m.rules

    x : Sets
    x = up_to S (free_unmarked marks) m.sets

    -- the sizes stay
    sets_same : sets_in rs ≡ S
    unfolding rs
    sets_same = rules.freed-other n 0 m.rules (inl (omega arith))

    rules-same : rules_in rs ≡ n
    unfolding rs
    rules-same = rules.freed-other n 1 m.rules (inl (omega arith))

    seen : view (record { rules = rs; sets = x }) ≡ collected (view m)
    unfolding rs x
    seen =
        let a : view_rules rs ≡ map freed (view_rules m.rules) = rules.freed-rules m.rules f.laid.sized.rules (λ r l. (f.laid.each_rule r l).short) in
        let b : view_sets (sets_in rs) (rules_in rs) x ≡ tab (length (view m).sets) (λ s. when (get_or (reached (view m).sets) s false) (set_at (view m).sets s) free_set) =
        ap₂ (λ (i j : ℕ). view_sets i j x) sets_same rules-same
        ∙ sets.freed-sets marks S m.sets n (reached (view m).sets) f.laid.sized.few_rules room (marks_reached marks k) in
        λ i. record { rules = a i; sets = b i }

    laid : Laid (record { rules = rs; sets = x })
    unfolding rs x
    laid =
        let z = f.laid.sized in
        let g = sets.freed-size marks S m.sets in
        let e = sets_same in
        let h = rules-same in
        record {
          sized = record {
            some_sets = omega (arith, z.some_sets);
            few_sets = omega (arith, z.few_sets);
            some_rules = omega (arith, z.some_rules);
            few_rules = omega (arith, z.few_rules);
            rules = omega (arith, z.rules, rules.freed-long n m.rules);
            cells = omega (arith, z.cells, g.cells);
            words = omega (arith, z.words, g.words);
          };
          each_rule = λ r l. let i : r < n = omega arith in rules.rule-laid n r m.rules i z.rules (f.laid.each_rule r i);
          each_set = λ s l. let i : s < S = omega arith in
              sets.freed-laid marks S m.sets s i (rules_in rs) (room s i) (subst (λ n. LaidSet n m.sets s) (sym h) (f.laid.each_set s i));
        }

    becomes : Becomes m (record { rules = rs; sets = x }) (collected (view m))
    unfolding rs x
    becomes = record {
      laid = laid;
      seen = seen;
      rules = λ j h. rules.freed-other n j m.rules (inr (omega (arith, rules-same)));
      cells = cells-beyond (sets_in rs) x m.sets beyond;
      words = words-beyond (sets_in rs) x m.sets beyond;
    }
      where
        beyond : (s : ℕ) → sets_in rs ≤ s → SameRow s x m.sets
        beyond s h = unfold x in sets.freed-beyond marks S m.sets s (omega (arith, sets_same))

    -- as the code comes to it
    pub collect-end : {rs' : List ℕ} {x' : Sets} → rs' ≡ up_to n free_withdrawn m.rules → x' ≡ up_to S (free_unmarked marks) m.sets
        → Becomes m (record { rules = rs'; sets = x' }) (collected (view m))
    unfolding rs x
    collect-end p q = subst (λ (y : Mem). Becomes m y (collected (view m))) (λ i. record { rules = sym p i; sets = sym q i }) becomes

-- collection keeps the form
pub collected-formed : (m a : Mem) → Formed m → Becomes m a (collected (view m)) → Formed a
collected-formed m a f b = record { laid = b.laid; form = subst InForm (sym b.seen) (collected-in_form (view m) f.form) }
