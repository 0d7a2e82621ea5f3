-- What the model reads from a view is what stands in the numbers. Assumes nothing.
use mathlib.Core.List.{List, Memᴰ as In}
use mathlib.Core.Path.{◌≡◌, refl, sym, ap, ◌∙◌}
use mathlib.Core.Logic.{◌↔◌, ◌⊎◌, inl, inr}
use Prim.Native.Nat.{ℕ, zero, suc, ◌+◌, ◌*◌, ◌≤◌, ◌<◌, zero-le}
use native.Mathlib.Decide.{ℕ_discrete}
use native.Mathlib.Omega.{arith}
use lib.Dec.{T, eqb}
use lib.ListN.{length, get_or}
use Rattle.laws.proofs.Tables.{length_tab, get_or-tab}
use Rattle.laws.proofs.Tests.{eqb_iff}
use Rattle.laws.specs.Lists.{firstIn, up_from}
use Rattle.laws.proofs.Lists.{in_keep, first_in, in_up}
use Rattle.kernels.specs.Kernel.{has, holds}
use Rattle.theory.specs.Table.{FREE, UNEXPANDED, Transition, item, no_transition, free_rule, free_set, rule_at, set_at, target, all_items}
use Rattle.table.specs.Layout.{Sets, rules_in, rule_number, cell, bit_of, state_of, transition, rule_seen, kernel_seen, transitions_seen, reductions_seen, set_seen, view_rules, view_sets}
use Rattle.theory.proofs.Items.{in_all}
use Rattle.table.proofs.Once.{in_transitions}

pub view-length : (rs : List ℕ) → length (view_rules rs) ≡ rules_in rs
view-length rs = length_tab (rules_in rs) (rule_seen rs)

pub rule_read : (rs : List ℕ) (r : ℕ) → r < rules_in rs → rule_at (view_rules rs) r ≡ rule_seen rs r
rule_read rs r l = get_or-tab (rules_in rs) r (rule_seen rs) free_rule l

pub set_read : (S n : ℕ) (x : Sets) (s : ℕ) → s < S → set_at (view_sets S n x) s ≡ set_seen n x s
set_read S n x s l = get_or-tab S s (set_seen n x) free_set l

pub right_read : (rs : List ℕ) (r d : ℕ) → d < rule_number rs r 2 → get_or (rule_seen rs r).right d 0 ≡ rule_number rs r (3 + d)
unfolding rule_seen
right_read rs r d l = get_or-tab (rule_number rs r 2) d (λ d. rule_number rs r (3 + d)) 0 l

pub right-length : (rs : List ℕ) (r : ℕ) → length (rule_seen rs r).right ≡ rule_number rs r 2
unfolding rule_seen
right-length rs r = length_tab (rule_number rs r 2) (λ d. rule_number rs r (3 + d))

pub in_seen : (n : ℕ) (ws : List ℕ) (at r d : ℕ) → In (item r d) (kernel_seen n ws at) ↔ (((r < n) × (d < 8)) × (has ws at (r * 8 + d) ≡ 1))
unfolding kernel_seen
in_seen n ws at r d = (
  λ m. let (a, b) = (in_keep (λ i. holds ws at (i.rule * 8 + i.dot)) (all_items n)).0 m in ((in_all n).0 a, (eqb_iff _ 1).0 b),
  λ (p, e). (in_keep (λ i. holds ws at (i.rule * 8 + i.dot)) (all_items n)).1 ((in_all n).1 p, (eqb_iff _ 1).1 e),
)

pub reductions_read : (n : ℕ) (x : Sets) (s r : ℕ) → In r (reductions_seen n x s) ↔ ((r < n) × (bit_of x s (1024 + r) ≡ 1))
unfolding reductions_seen
reductions_read n x s r = (
  λ m. let (a, b) = (in_keep (λ r. eqb (bit_of x s (1024 + r)) 1) (up_from 0 n)).0 m in let (p, q) = (in_up 0 n).0 a in (omega arith, (eqb_iff _ 1).0 b),
  λ (p, e). (in_keep (λ r. eqb (bit_of x s (1024 + r)) 1) (up_from 0 n)).1 ((in_up 0 n).1 (zero-le, omega arith), (eqb_iff _ 1).1 e),
)

-- the mark behind a state
pub state_free : (m : ℕ) → state_of m ≡ FREE → m ≡ 0
state_free zero e = refl
state_free (suc zero) e = absurd (omega arith)
state_free (suc (suc m)) e = absurd (omega arith)

pub state-unexpanded : (m : ℕ) → state_of m ≡ UNEXPANDED → m ≡ 1
state-unexpanded zero e = absurd (omega arith)
state-unexpanded (suc zero) e = refl
state-unexpanded (suc (suc m)) e = absurd (omega arith)

-- a target, as Parse looks it up
pub target_read : (S n : ℕ) (x : Sets) (s k : ℕ) → s < S → 1 ≤ k → k < 128 → target (view_sets S n x) s k ≡ cell x s k
target_read S n x s k l p q = ap (λ y. (firstIn (λ a. eqb a.on k) no_transition y.transitions).to) (set_read S n x s l) ∙ go (first_in (λ a. eqb a.on k) no_transition (transitions_seen x s))
  where
    go : (In (firstIn (λ a. eqb a.on k) no_transition (transitions_seen x s)) (transitions_seen x s) × T (eqb (firstIn (λ a. eqb a.on k) no_transition (transitions_seen x s)).on k))
        ⊎ ((firstIn (λ a. eqb a.on k) no_transition (transitions_seen x s) ≡ no_transition) × ((a : Transition) → In a (transitions_seen x s) → T (eqb a.on k) → ⊥))
        → (firstIn (λ a. eqb a.on k) no_transition (transitions_seen x s)).to ≡ cell x s k
    go (inl (m, t)) = let f = firstIn (λ a. eqb a.on k) no_transition (transitions_seen x s) in ((in_transitions x s f.on f.to).0 m).1.0 ∙ ap (cell x s) ((eqb_iff f.on k).0 t)
    go (inr (e, none)) = elim (ℕ_discrete (cell x s k) 0) [
      | yes z ↦ ap (λ a. a.to) e ∙ sym z
      | no z ↦ absurd (none (transition k (cell x s k)) ((in_transitions x s k (cell x s k)).1 ((p, q), (refl, z))) ((eqb_iff k k).1 refl))
    ]
