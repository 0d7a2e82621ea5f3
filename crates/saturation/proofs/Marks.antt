-- The marks of the sets at this position: the accept mark, and the lowest unexpanded set. Assumes nothing.
use mathlib.Core.Bool.{Bool, true, false}
use mathlib.Core.Path.{◌≡◌, sym, ◌∙◌, ap, subst}
use mathlib.Core.Logic.{◌≢◌, ◌↔◌}
use mathlib.Core.List.{Memᴰ as In}
use Prim.Native.Nat.{ℕ, ◌+◌, ◌*◌, ◌≤◌, ◌<◌}
use native.Mathlib.Omega.{arith}
use lib.Dec.{T}
use lib.ListN.{get_or}
use Rattle.std.specs.Prelude.{Option, Some, None}
use Rattle.laws.specs.Choice.{Tells}
use Rattle.laws.proofs.Tests.{eqb_iff}
use Rattle.theory.specs.Table.{UNEXPANDED, SetPlace, set_at}
use Rattle.theory.specs.Parse.{nodes_at}
use Rattle.theory.specs.Steps.{Lowest}
use Rattle.table.specs.Layout.{Mem, sets_in, rules_in, state_of, view}
use Rattle.table.proofs.Read.{set_read, state-unexpanded}
use Rattle.links.specs.declared.Here.{Here}
use Rattle.links.specs.Records.{in_set, Graph, links_of}
use Rattle.links.specs.Held.{Held}
use Rattle.saturation.specs.Ends.{Accepting, Waiting, Marked, LowestAt, LowestIn}
use Rattle.saturation.proofs.Nodes.{here_in, here_of, set-low}

-- ---- what a mark says

module _ (m : Mem) (u : ℕ) (l : u < sets_in m.rules) where
  first_cell : get_or m.sets.cells (u * 128 + 0) 0 ≡ get_or m.sets.cells (u * 128) 0
  first_cell = ap (λ i. get_or m.sets.cells i 0) (omega arith)

  unexpanded_iff : ((set_at (view m).sets u).state ≡ UNEXPANDED) ↔ (get_or m.sets.cells (u * 128) 0 ≡ 1)
  unexpanded_iff =
      let r = set_read (sets_in m.rules) (rules_in m.rules) m.sets u l in (
        λ e. sym first_cell ∙ state-unexpanded _ (sym (ap (λ (p : SetPlace). p.state) r) ∙ e),
        λ e. ap (λ (p : SetPlace). p.state) r ∙ ap state_of (first_cell ∙ e),
      )

  accepts_iff : T (set_at (view m).sets u).accepts ↔ (get_or m.sets.cells (u * 128) 0 ≡ 3)
  accepts_iff =
      let r = set_read (sets_in m.rules) (rules_in m.rules) m.sets u l in (
        λ t. sym first_cell ∙ (eqb_iff _ 3).0 (subst (λ (p : SetPlace). T p.accepts) r t),
        λ e. subst (λ (p : SetPlace). T p.accepts) (sym r) ((eqb_iff _ 3).1 (first_cell ∙ e)),
      )

-- ---- the accept mark

tells_iff : {P Q : Type 0} (b : Bool) → (P → Q) → (Q → P) → Tells b P → Tells b Q
tells_iff true f g t = f t
tells_iff false f g t = λ q. t (g q)

module _ (m : Mem) {h : Here} {x : Graph} (H : Held h x) (few : h.sets ≡ sets_in m.rules) where
  pub accepting : (b : Bool) → Tells b (Marked x.buf m.sets.cells h.start x.nodes 3) → Tells b (Accepting (view m) h.position (links_of x))
  accepting b = tells_iff b
      (λ w. record { set = in_set x.buf w.m; here = here_in H w.m w.low w.from; mark = (accepts_iff m (in_set x.buf w.m) (set-low H few w.m w.low)).1 w.mark })
      (λ a. let (n, from, low, is) = here_of H a.here in record {
        m = n;
        from = from;
        low = low;
        mark = (accepts_iff m (in_set x.buf n) (set-low H few n low)).0 (subst (λ u. T (set_at (view m).sets u).accepts) (sym is) a.mark);
      })

  -- ---- the lowest unexpanded set

  -- an unexpanded set of a node here is that of a node from `start` on with the mark 1
  marked_of : (v : ℕ) → In v (nodes_at (links_of x) h.position) → (set_at (view m).sets v).state ≡ UNEXPANDED
      → (n : ℕ) × (h.start ≤ n) × (n < x.nodes) × (in_set x.buf n ≡ v) × (get_or m.sets.cells (in_set x.buf n * 128) 0 ≡ 1)
  marked_of v i e =
      let (n, from, low, is) = here_of H i in
      (n, from, low, is, (unexpanded_iff m (in_set x.buf n) (set-low H few n low)).0 (subst (λ u. (set_at (view m).sets u).state ≡ UNEXPANDED) (sym is) e))

  none-waits : LowestIn x.buf m.sets.cells h.start x.nodes None → (v : ℕ) → In v (nodes_at (links_of x) h.position) → (set_at (view m).sets v).state ≢ UNEXPANDED
  none-waits L v i e = let (n, from, low, is, mark) = marked_of v i e in L n from low mark

  waits : {r : ℕ} → LowestAt x.buf m.sets.cells h.start x.nodes r → Lowest (view m) h.position (links_of x) r
  waits L =
      let (n, from, low, is, mark) = L.hit in record {
        here = subst (λ u. In u (nodes_at (links_of x) h.position)) is (here_in H n low from);
        unexpanded = subst (λ u. (set_at (view m).sets u).state ≡ UNEXPANDED) is ((unexpanded_iff m (in_set x.buf n) (set-low H few n low)).1 mark);
        least = λ v l i e. let (k, g, o, q, a) = marked_of v i e in let b = L.least k g o a in omega arith;
      }

  pub waiting : (r : Option ℕ) → LowestIn x.buf m.sets.cells h.start x.nodes r → Waiting (view m) h.position (links_of x) r
  waiting (Some r) L = waits L
  waiting None L = none-waits L
