-- A settled position's ways on: the verdict at the end of the line, else a token that no node takes, a link too many, or the next
-- position. Assumes nothing.
use mathlib.Core.Path.{◌≡◌, refl, sym, ap, subst}
use mathlib.Core.Logic.{◌≢◌}
use mathlib.Core.List.{List, [], ◌∷◌}
use Prim.Native.Nat.{ℕ, ◌<◌}
use native.Mathlib.Numerals.{add-one}
use native.Mathlib.Omega.{arith}
use lib.ListN.{length}
use Rattle.std.specs.Prelude.{Bool, true, false, Result, Ok, Err}
use Rattle.laws.specs.Choice.{when, Tells}
use Rattle.symbols.specs.Answer.{refusal_number}
use Rattle.symbols.specs.declared.refusal.Refusal.{Refusal}
use Rattle.symbols.specs.declared.refusal.Refusal.TheVariants.{NoLinks}
use Rattle.symbols.specs.declared.verdict.Verdict.{Verdict}
use Rattle.theory.specs.Table.{Table}
use Rattle.theory.specs.Parse.{outcome}
use Rattle.theory.specs.Steps.{Shifted}
use Rattle.theory.specs.Steps.Steps.{accepts, rejects, stuck, shift_full}
use Rattle.theory.specs.Reaches.Reaches.{there, shifts as shifts-on}
use Rattle.theory.proofs.Reaching.{reaches-leads, reaches-on}
use Rattle.theory.proofs.Grounded.{Grounded, shifted_grounded}
use Rattle.table.specs.Layout.{Mem, view}
use Rattle.links.specs.declared.Here.{Here}
use Rattle.links.specs.Records.{Graph, graph, counts, links_of}
use Rattle.links.proofs.Listed.{count}
use Rattle.saturation.specs.Ends.{Shifts, Accepting}
use Rattle.theory.proofs.Shifting.{shifting, not_fewer, none-new}
use Rattle.positions.specs.Reading.{Stands, Settles, Refuses, Advances, Holds, Finishes}

abbrev verdict : Bool → ℕ → Result Verdict Refusal
verdict b n = Ok (record { accepts = b; links = n })

-- ---- a position that was not settled

pub refuses : {h : Here} {m : Mem} {x : Graph} {n : Mem} {b : List ℕ} (a : Refusal) → Refuses h m x n (refusal_number a)
    → (w : List ℕ) → Finishes h w m x n b (Err a)
refuses a r w = record { kept = r.kept; steps = r.steps w; accepted = λ e. absurd (let h = r.refusal in omega arith) }

-- ---- a settled one

module _ {h : Here} {m : Mem} {x : Graph} {n : Mem} {y : Graph} (S : Settles h m x n y) where
  abbrev t : Table
  t = view n

  abbrev p : ℕ
  p = h.position

  size : length (links_of y) ≡ y.links
  size = count y.buf y.links

  -- ---- at the end of the line: "accept if a node here has the accept mark, else reject"

  -- the graph in the buffer is this position's
  holds : Holds h.size (view m) p (links_of x) [] n y.buf y.links
  holds = record {
    last = h;
    at = y.at;
    nodes = y.nodes;
    stands = subst (λ o. Stands h n (graph y.buf y.at (counts y.nodes y.links o))) S.stands.in_pool S.stands;
    from = S.from;
    reaches = S.reaches [];
    ready = S.ready;
  }

  ends-accepted : Accepting t p (links_of y) → Finishes h [] m x n y.buf (verdict true y.links)
  unfolding when
  ends-accepted a = record {
    kept = S.kept;
    steps = reaches-leads (S.reaches []) _ (accepts S.ready a.here a.mark (ap (λ k. outcome 1 k t) size));
    accepted = λ e. holds;
  }

  ends_rejected : (Accepting t p (links_of y) → ⊥) → Finishes h [] m x n y.buf (verdict false y.links)
  unfolding when
  ends_rejected a = record {
    kept = S.kept;
    steps = reaches-leads (S.reaches []) _
        (rejects S.ready (λ u i b. a (record { set = u; here = i; mark = b })) (ap (λ k. outcome 2 k t) size));
    accepted = λ e. absurd (omega arith);
  }

  pub judged : (b : Bool) → Tells b (Accepting t p (links_of y)) → Finishes h [] m x n y.buf (verdict b y.links)
  judged true a = ends-accepted a
  judged false a = ends_rejected a

  -- ---- before it

  module _ {k : ℕ} {z : Graph} (D : Shifts t h k y z) where
    grown : length (links_of z) ≡ z.links
    grown = count z.buf z.links

    -- "More than the pool: NO-LINKS."
    pub ends-over : z.over ≢ 0 → {b : List ℕ} (w : List ℕ) → Finishes h (k ∷ w) m x n b (Err NoLinks)
    ends-over e w = record {
      kept = S.kept;
      steps =
          let s = shifting t p k (links_of y) S.stands.grounded in
          let f = D.more e _ s in
          reaches-leads (S.reaches (k ∷ w)) _ (shift_full S.ready s (let g = S.ready.in_pool in omega arith) f refl);
      accepted = λ e. absurd (omega arith);
    }

    module _ (e : z.over ≡ 0) where
      shifted : Shifted t p k (links_of y) (links_of z)
      shifted = D.whole e

      -- "None: reject."
      pub ends_stuck : z.links ≡ y.links → {b : List ℕ} (w : List ℕ) → Finishes h (k ∷ w) m x n b (verdict false y.links)
      unfolding when
      ends_stuck q w = record {
        kept = S.kept;
        steps =
            let none = none-new S.stands.grounded shifted (omega (arith, grown, size)) in
            reaches-leads (S.reaches (k ∷ w)) _ (stuck S.ready none (ap (λ k. outcome 2 k t) size));
        accepted = λ e. absurd (omega arith);
      }

      -- "Then the next position."
      pub advances : z.links ≢ y.links → Advances h k m x y.nodes n z
      advances q = record {
        kept = S.kept;
        stands = record {
          formed = S.stands.formed;
          sets = S.stands.sets;
          held = D.held;
          in_pool = e;
          grounded = subst (λ i. Grounded t i (links_of z)) (sym (add-one p)) (shifted_grounded S.stands.grounded shifted);
        };
        reaches = λ w.
            let f = not_fewer S.stands.grounded shifted in
            let more : length (links_of y) < length (links_of z) = omega (arith, grown, size) in
            reaches-on (S.reaches (k ∷ w)) (shifts-on S.ready shifted more (omega (arith, grown, D.held.core.fits)) there);
      }
