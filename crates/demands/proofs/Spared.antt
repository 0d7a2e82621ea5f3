-- A set that an accepted addition or withdrawal leaves as it was keeps each of its lent numbers. Assumes nothing.
use mathlib.Core.Path.{◌≡◌, sym, ◌∙◌, ap, subst}
use mathlib.Core.Logic.{◌⊎◌, inl, inr}
use mathlib.Core.List.{List}
use Prim.Native.Nat.{ℕ, ◌<◌}
use native.Mathlib.Omega.{arith}
use lib.Dec.{eqb}
use lib.ListN.{length, length-set, length-map}
use Rattle.laws.proofs.Choice.{when-cases}
use Rattle.laws.proofs.Tables.{length_tab, get_or-tab}
use Rattle.symbols.specs.Symbol.{START}
use Rattle.symbols.specs.Answer.{DONE}
use Rattle.theory.specs.Table.{CURRENT, RulePlace, SetPlace, Table, free_set, set_at}
use Rattle.theory.specs.Expansion.{freed, collected}
use Rattle.theory.specs.Calls as calls
use Rattle.theory.specs.Calls.{put_rule}
use Rattle.theory.specs.Changes.{CollectsFirst}
use Rattle.theory.specs.Made.{Rule, Made}
use Rattle.theory.proofs.Accepted.{placed}
use Rattle.theory.proofs.History.{made_consistent, add-accepted, delete-accepted}
use Rattle.table.specs.Layout.{Mem, sets_in, rules_in, rule_seen, set_seen, view}
use Rattle.table.specs.Laid.{Laid, LaidSet}
use Rattle.table.specs.Becomes.{Promised}
use Rattle.table.proofs.Once.{same-cells, same-words}
use Rattle.demands.specs.Run.{Run}
use Rattle.demands.specs.Numbers.{SameNumbers}
use Rattle.demands.proofs.Made.{run_holds, of_change}

-- ---- a change keeps the pools' sizes

abbrev SameSizes : Table → Table → Type 0
SameSizes t u = (length u.rules ≡ length t.rules) × (length u.sets ≡ length t.sets)

put-sizes : (t : Table) (n : ℕ) (p : RulePlace) → SameSizes t (put_rule t n p)
put-sizes t n p = (
  length-set t.rules n p,
  when-cases (λ (ss : List SetPlace). length ss ≡ length t.sets) (eqb p.left START)
      (λ e. length-set t.sets 0 _) (λ e. length-map t.sets _),
)

module _ {t : Table} {R : List Rule} (m : Made t R) (x : ℕ) (w : List ℕ) where
  add-sizes : (calls.add t x w).answer ≡ DONE → SameSizes t (calls.add t x w).table
  add-sizes a = let d = add-accepted t (made_consistent m) x w a in subst (SameSizes t) (sym d.is) (of d.base _ d.which)
    where
      of : (u : Table) (n : ℕ) → ((CollectsFirst t x w → ⊥) × (u ≡ t)) ⊎ (CollectsFirst t x w × (u ≡ collected t))
          → SameSizes t (put_rule u n (placed CURRENT x w))
      of u n (inl (z, e)) = subst (λ v. SameSizes v (put_rule u n (placed CURRENT x w))) e (put-sizes u n (placed CURRENT x w))
      of u n (inr (z, e)) = let (p, q) = put-sizes u n (placed CURRENT x w) in (
        p ∙ ap (λ u. length u.rules) e ∙ length-map t.rules freed,
        q ∙ ap (λ u. length u.sets) e ∙ length_tab (length t.sets) _,
      )

  delete-sizes : (calls.delete t x w).answer ≡ DONE → SameSizes t (calls.delete t x w).table
  delete-sizes a = let d = delete-accepted t (made_consistent m) x w a in subst (SameSizes t) (sym d.is) (put-sizes t _ _)

-- ---- then a set that is seen alike has the same numbers

module _ {m n : Mem} (lm : Laid m) (ln : Laid n) (sizes : SameSizes (view m) (view n)) where
  same-rules : rules_in n.rules ≡ rules_in m.rules
  same-rules =
      sym (length_tab (rules_in n.rules) (rule_seen n.rules)) ∙ sizes.0 ∙ length_tab (rules_in m.rules) (rule_seen m.rules)

  same-sets : sets_in n.rules ≡ sets_in m.rules
  same-sets =
      sym (length_tab (sets_in n.rules) (set_seen (rules_in n.rules) n.sets)) ∙ sizes.1
      ∙ length_tab (sets_in m.rules) (set_seen (rules_in m.rules) m.sets)

  same_numbers : (s : ℕ) → s < sets_in m.rules → set_at (view n).sets s ≡ set_at (view m).sets s → SameNumbers m n s
  same_numbers s l e =
      let r = rules_in m.rules in
      let k : s < sets_in n.rules = omega (arith, same-sets) in
      let laid : LaidSet r n.sets s = subst (λ i. LaidSet i n.sets s) same-rules (ln.each_set s k) in
      let seen : set_seen r n.sets s ≡ set_seen r m.sets s =
      ap (λ i. set_seen i n.sets s) (sym same-rules)
      ∙ sym (get_or-tab (sets_in n.rules) s (set_seen (rules_in n.rules) n.sets) free_set k)
      ∙ e ∙ get_or-tab (sets_in m.rules) s (set_seen r m.sets) free_set l in
      record {
        cells = same-cells r n.sets m.sets s laid (lm.each_set s l) seen;
        words = same-words r n.sets m.sets s lm.sized.few_rules laid (lm.each_set s l) seen;
      }

module _ {m n : Mem} {R : List Rule} {k : ℕ} (r : Run m R) (x : ℕ) (w : List ℕ) where
  pub add-numbers : Promised (λ t. calls.add t x w) m n DONE k → (s : ℕ) → s < sets_in m.rules
      → set_at (view n).sets s ≡ set_at (view m).sets s → SameNumbers m n s
  add-numbers p = let f = (run_holds r).formed in
      same_numbers f.laid (p.table f).laid (of_change r p (SameSizes (view m)) (λ h. add-sizes h x w))

  pub delete-numbers : Promised (λ t. calls.delete t x w) m n DONE k → (s : ℕ) → s < sets_in m.rules
      → set_at (view n).sets s ≡ set_at (view m).sets s → SameNumbers m n s
  delete-numbers p = let f = (run_holds r).formed in
      same_numbers f.laid (p.table f).laid (of_change r p (SameSizes (view m)) (λ h. delete-sizes h x w))
