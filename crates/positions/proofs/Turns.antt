-- The turns at a position end: the sets of its nodes that are expanded stay so, and each turn but the last adds one. Assumes nothing.
use mathlib.Core.Path.{◌≡◌, sym, ◌∙◌, ap, subst}
use mathlib.Core.Bool.{Bool, true, false}
use mathlib.Core.Logic.{⊎_elim}
use mathlib.Core.List.Memᴰ
use mathlib.Core.List.{List, [], map, Memᴰ as In}
use Prim.Native.Nat.{ℕ, suc, ◌-◌, ◌≤◌, ◌<◌, zero-le}
use native.Mathlib.Omega.{arith}
use lib.Dec.{eqb}
use lib.ListN.{length}
use Rattle.laws.specs.Choice.{when}
use Rattle.laws.specs.Lists.{consIf, keep, up_from, Distinct}
use Rattle.laws.specs.Lists.Distinct.{none, one_more}
use Rattle.laws.proofs.Lists.{in_keep, in_up, distinct_add, up_length}
use Rattle.laws.proofs.Tests.{eqb_iff}
use Rattle.theory.specs.Table.{UNEXPANDED, EXPANDED, Table, set_at, Reach}
use Rattle.theory.specs.Parse.{Link, nodes_at}
use Rattle.theory.proofs.Counted.{distinct_keep}
use Rattle.theory.proofs.Counting.{no_longer}
use Rattle.theory.proofs.Exact.{in_nodes_at, node-more}
use Rattle.theory.proofs.Later.{Later}
use Rattle.theory.proofs.Steps.{state-inside}

is_expanded : Table → ℕ → Bool
is_expanded t s = eqb (set_at t.sets s).state EXPANDED

-- the expanded sets of the nodes at p
expanded_at : Table → List Link → ℕ → List ℕ
expanded_at t ls p = keep (is_expanded t) (nodes_at ls p)

-- how many turns there are at most from here
pub turns_left : Table → List Link → ℕ → ℕ
turns_left t ls p = length t.sets - length (expanded_at t ls p)

root_once : (b : Bool) → Distinct {A = ℕ} (consIf b 0 [])
unfolding when
root_once true = one_more Memᴰ.not-nil none
root_once false = none

module _ (t : Table) (ls : List Link) (p : ℕ) where
  in_expanded : (s : ℕ) → In s (expanded_at t ls p) → In s (nodes_at ls p) × ((set_at t.sets s).state ≡ EXPANDED)
  unfolding expanded_at is_expanded
  in_expanded s i = let (a, b) = (in_keep (is_expanded t) (nodes_at ls p)).0 i in (a, (eqb_iff _ _).0 b)

  of_expanded : (s : ℕ) → In s (nodes_at ls p) → (set_at t.sets s).state ≡ EXPANDED → In s (expanded_at t ls p)
  unfolding expanded_at is_expanded
  of_expanded s a b = (in_keep (is_expanded t) (nodes_at ls p)).1 (a, (eqb_iff _ _).1 b)

  once : Distinct (expanded_at t ls p)
  unfolding expanded_at
  once = distinct_keep (is_expanded t)
      (distinct_add eqb eqb_iff (consIf (eqb p 0) 0 []) (map (λ l. l.s) (keep (λ l. eqb l.i p) ls)) (root_once (eqb p 0)))

  few : length (expanded_at t ls p) ≤ length t.sets
  few =
      let h = no_longer once (up_from 0 (length t.sets))
      (λ s i. let k = state-inside t.sets s 1 (in_expanded s i).1 in (in_up 0 (length t.sets)).1 (zero-le, omega arith)) in
      omega (arith, up_length 0 (length t.sets))

nodes_grow : (a b : List Link) (p : ℕ) → ((l : Link) → In l a → In l b) → (u : ℕ) → In u (nodes_at a p) → In u (nodes_at b p)
nodes_grow a b p f u i = (in_nodes_at b p).1 (node-more f ((in_nodes_at a p).0 i))

-- a turn that expands the set u of a node here
module _ (t t' : Table) (a b : List Link) (p u : ℕ) (reached : (s : ℕ) → In s (nodes_at a p) → Reach t s) (𝓛 : Later t t')
    (more : (l : Link) → In l a → In l b) (here : In u (nodes_at b p)) (was : (set_at t.sets u).state ≡ UNEXPANDED)
    (is : (set_at t'.sets u).state ≡ EXPANDED) where
  one-more-expanded : suc (length (expanded_at t a p)) ≤ length (expanded_at t' b p)
  one-more-expanded = no_longer (one_more (λ i. let e = (in_expanded t a p u i).1 in omega arith) (once t a p)) (expanded_at t' b p)
      (λ s i. ⊎_elim (λ e. subst (λ s. In s (expanded_at t' b p)) (sym e) (of_expanded t' b p u here is))
      (λ i. stays s (in_expanded t a p s i)) (Memᴰ.cases_cons i))
    where
      stays : (s : ℕ) → In s (nodes_at a p) × ((set_at t.sets s).state ≡ EXPANDED) → In s (expanded_at t' b p)
      stays s (i, e) = of_expanded t' b p s (nodes_grow a b p more s i) (ap (λ q. q.state) (𝓛.same s (reached s i) e) ∙ e)

  pub fewer_turns : turns_left t' b p < turns_left t a p
  unfolding turns_left
  fewer_turns = let e = one-more-expanded in omega (arith, few t' b p, 𝓛.size)
