-- A position settled turn by turn: what holds before each turn, what a turn keeps, and the ways out. A turn that expands a set leaves
-- one more expanded set of a node here, so the turns end. Assumes nothing.
use mathlib.Core.Path.{◌≡◌, refl, sym, ◌∙◌, ap, subst}
use mathlib.Core.Bool.{Bool, true, false}
use mathlib.Core.Logic.{◌≢◌}
use mathlib.Core.List.{List}
use Prim.Native.Nat.{ℕ, ◌≤◌, ◌<◌}
use native.Mathlib.Omega.{arith}
use lib.ListN.{length}
use Rattle.theory.specs.Table.{Table}
use Rattle.theory.specs.Parse.{outcome}
use Rattle.theory.specs.Steps.{Saturated, Lowest}
use Rattle.theory.specs.Steps.Linked.{given}
use Rattle.theory.specs.Steps.Steps.{no_links, no_sets}
use Rattle.theory.specs.Reaches.{Reaches}
use Rattle.theory.specs.Reaches.Reaches.{there, expands}
use Rattle.theory.proofs.Exact.{in_nodes_at}
use Rattle.theory.proofs.Later.{Later}
use Rattle.theory.proofs.Saturation.{saturation}
use Rattle.theory.proofs.Reaching.{reaches-leads, reaches-on}
use Rattle.theory.proofs.Grounded.{node_reach, saturated-grounded, later-grounded, lowest_reach}
use Rattle.table.specs.Layout.{Mem, view}
use Rattle.links.specs.declared.Here.{Here}
use Rattle.links.specs.Records.{Graph, links_of}
use Rattle.links.proofs.Listed.{count}
use Rattle.saturation.specs.Ends.{Saturates, Waiting}
use Rattle.std.specs.Prelude.{None}
use Rattle.expansion.specs.Expansion.{Expandable, Expands}
use Rattle.expansion.proofs.Promises.{expand-keeps, expand-expanded}
use Rattle.positions.specs.Reading.{Stands, Kept, Settles, Refuses}
use Rattle.positions.proofs.Kept.{kept-none, kept_trans, kept-expanded}
use Rattle.positions.proofs.Turns.{turns_left, fewer_turns}

-- before a turn: n and y are the table's numbers and the graph, m and x what they were at first
pub record Settling (h : Here) (m : Mem) (x : Graph) (n : Mem) (y : Graph) : Type 0 where
  pub kept : Kept m n
  pub stands : Stands h n y
  pub reaches : (w : List ℕ) → Reaches h.size (view m) h.position (links_of x) w (view n) h.position (links_of y) w

pub settling_start : {h : Here} {m : Mem} {x : Graph} → Stands h m x → Settling h m x m x
settling_start s = record { kept = kept-none s.formed; stands = s; reaches = λ w. there }

module _ {h : Here} {m : Mem} {x : Graph} {n : Mem} {y z : Graph} (I : Settling h m x n y) (S : Saturates (view n) h y z) where
  abbrev t : Table
  t = view n

  abbrev p : ℕ
  p = h.position

  -- "More links than the pool: NO-LINKS."
  pub settling_over : z.over ≢ 0 → Refuses h m x n 21
  settling_over e = record {
    kept = I.kept;
    refusal = omega arith;
    steps = λ w.
        let (l, s) = saturation t p (links_of y) I.stands.grounded.once in
        reaches-leads (I.reaches w) _ (no_links s (S.more e l s) refl);
  }

  module _ (e : z.over ≡ 0) where
    saturated : Saturated t p (links_of y) (links_of z)
    saturated = S.whole e

    fits : length (links_of z) ≤ h.size
    fits = omega (arith, count z.buf z.links, S.held.core.fits)

    pub settling-ready : Waiting t p (links_of z) None → Settles h m x n z
    settling-ready w = record {
      kept = I.kept;
      stands = record {
        formed = I.stands.formed;
        sets = I.stands.sets;
        held = S.held;
        in_pool = e;
        grounded = saturated-grounded I.stands.grounded saturated;
      };
      from = links_of y;
      ready = record { saturated = saturated; in_pool = fits; none_left = w };
      reaches = I.reaches;
    }

    module _ {u : ℕ} (w : Lowest t p (links_of z) u) where
      pub settling-expandable : Expandable n u
      settling-expandable = record {
        is = record { formed = I.stands.formed; bare = w.unexpanded };
        reached = lowest_reach I.stands.grounded saturated w;
      }

      -- "failure: NO-SETS"
      pub settling-no-sets : {n' : Mem} {r : Bool} → Expands n n' u r → r ≡ false → Refuses h m x n' 20
      settling-no-sets {r = r} X q = record {
        kept = kept_trans I.kept (kept-expanded settling-expandable X);
        refusal = omega arith;
        steps = λ l. reaches-leads (I.reaches l) _
            (no_sets saturated fits w (sym X.done ∙ q) (ap (outcome 20 0) (sym X.table.seen)));
      }

      module _ {n' : Mem} {r : Bool} (X : Expands n n' u r) (done : r ≡ true) where
        later : Later t (view n')
        later = expand-keeps settling-expandable X

        -- "and go to 1"
        pub settling-next : Settling h m x n' z
        settling-next =
            let k = kept-expanded settling-expandable X in
            record {
              kept = kept_trans I.kept k;
              stands = record {
                formed = k.formed;
                sets = I.stands.sets ∙ sym k.sets;
                held = S.held;
                in_pool = e;
                grounded = later-grounded I.stands.formed.form later (saturated-grounded I.stands.grounded saturated);
              };
              reaches = λ l.
                  let now = subst (λ t. Reaches h.size t p (links_of z) l (view n') p (links_of z) l) X.table.seen there in
                  reaches-on (I.reaches l) (expands saturated fits w (sym X.done ∙ done) now);
            }

        pub settling-less : turns_left (view n') (links_of z) p < turns_left t (links_of y) p
        settling-less = fewer_turns t (view n') (links_of y) (links_of z) p u
            (λ s i. node_reach I.stands.grounded ((in_nodes_at (links_of y) p).0 i)) later (λ l i. (saturated.all l).1 (given i))
            w.here w.unexpanded
            (expand-expanded settling-expandable X done)
