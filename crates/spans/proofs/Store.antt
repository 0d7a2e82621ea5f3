-- The area as a store: what is read at a place is what is kept of its span, and what is written there is one span set. Assumes nothing.
use mathlib.Core.Path.{◌≡◌, refl, sym, ap, ◌∙◌, subst}
use mathlib.Core.Logic.{◌≢◌, inl, inr, ⊎_elim}
use mathlib.Core.List.{List}
use Prim.Native.Nat.{ℕ, ◌+◌, ◌≤◌, ◌<◌}
use native.Mathlib.Decide.{ℕ_discrete}
use native.Mathlib.Omega.{arith}
use borrow.Author.Tests.{lt-ltb, le-ltb}
use lib.Dec.{ltb}
use lib.ListN.{length, get_or, set, length-set}
use lib.Seq.{get_or-set_same, get_or-set_other}
use Rattle.laws.proofs.Choice.{when_yes, when_no}
use Rattle.theory.specs.Derivation.{Grammar}
use Rattle.leftmost.specs.Within.{Spans}
use Rattle.leftmost.specs.Kept.{Sets}
use Rattle.spans.specs.Area.{symbol_at, start_at, cost_at, choice_at, first_at, Place, place_of, kept, kept_at, store_of, set_kept}
use Rattle.spans.specs.Gathered.{First, Ascending, Ordered, Shows, Gathered}
use Rattle.spans.proofs.SameKeys.{SameKeys, other_way, same-ascending, same_first, same_place_lem, same-shows}
use Rattle.spans.proofs.Placed.{place-cases, place_none, place_at}

-- ---- what is read

module _ (G : Grammar) (a : List ℕ) (count x i j : ℕ) where
  pub store_at : {e : ℕ} → Ascending a count → e < count → Place a e x i j → store_of G a count x i j ≡ kept_at G a e
  unfolding store_of
  store_at {e} ascending h p =
      let q = place_at a count x i j ascending h p in
      sym (when_yes (kept G 0 0) (ap (λ e. ltb e count) q ∙ lt-ltb e count h) (ap (kept_at G a) (sym q)))

  pub store_none : ((e : ℕ) → e < count → Place a e x i j → ⊥) → store_of G a count x i j ≡ kept G 0 0
  unfolding store_of
  store_none none =
      let q = place_none a count x i j none in
      sym (when_no (kept_at G a (place_of a count x i j)) (ap (λ e. ltb e count) q ∙ le-ltb count count (omega arith)) refl)

  -- whatever has a cost has a place
  pub store_some : (store_of G a count x i j).cost ≢ 0 → (e : ℕ) × (e < count) × Place a e x i j
  store_some some = ⊎_elim
      (λ (h, p). (place_of a count x i j, h, p))
      (λ (q, none). absurd (some (ap (λ k. k.cost) (store_none none))))
      (place-cases a count x i j)

-- only the spans at hand have a cost
pub store_within : {S : Spans} {a : List ℕ} {count : ℕ} → Shows S a count → (G : Grammar) (x i j : ℕ) → (store_of G a count x i j).cost ≢ 0
    → S x i j
store_within {S} {a} {count} shows G x i j some =
    let (e, h, p) = store_some G a count x i j some in
    subst (λ x. S x i j) p.symbol
    (subst (λ i. S (symbol_at a e) i j) p.start (subst (S (symbol_at a e) (start_at a e)) p.ends (shows.only e h)))

-- after gathering nothing has
pub store_empty : {n : ℕ} {S : Spans} {a : List ℕ} {count : ℕ} → Gathered n S a count → (G : Grammar) (x i j : ℕ)
    → (store_of G a count x i j).cost ≡ 0
store_empty {a = a} {count = count} g G x i j = ⊎_elim
    (λ (h, p). ap (λ k. k.cost) (store_at G a count x i j g.ordered.ascending h p) ∙ g.costs (place_of a count x i j) h)
    (λ (q, none). ap (λ k. k.cost) (store_none G a count x i j none))
    (place-cases a count x i j)

-- ---- what is written

module _ (a : List ℕ) (e cost choice : ℕ) where
  abbrev b : List ℕ
  b = set_kept a e cost choice

  pub kept-long : length (set_kept a e cost choice) ≡ length a
  unfolding set_kept
  kept-long = simp length-set

  kept-other : (i : ℕ) → i ≢ 4097 + e → i ≢ 8194 + e → get_or (set_kept a e cost choice) i 0 ≡ get_or a i 0
  unfolding set_kept
  kept-other i p q = get_or-set_other (set a (4097 + e) cost) (8194 + e) i choice 0 q ∙ get_or-set_other a (4097 + e) i cost 0 p

  module _ {count : ℕ} (few : count ≤ 4097) (inside : e < count) where
    pub kept-keys : SameKeys a (set_kept a e cost choice) count
    kept-keys = record { each = λ f h. kept-other f (λ q. omega arith) (λ q. omega arith) }

    pub kept-ordered : {n : ℕ} → Ordered n a count → Ordered n (set_kept a e cost choice) count
    kept-ordered {n} o =
        let first : (j : ℕ) → first_at (set_kept a e cost choice) j ≡ first_at a j = λ j. kept-other (12291 + j) (λ q. omega arith) (λ q. omega arith) in
        record {
          short = o.short;
          room = omega (arith, o.room, kept-long);
          few = o.few;
          ascending = same-ascending kept-keys o.ascending;
          firsts = λ j h. subst (First (set_kept a e cost choice) count j) (sym (first j)) (same_first kept-keys (o.firsts j h));
          last = first (n + 1) ∙ o.last;
        }

    pub kept-shows : {S : Spans} → Shows S a count → Shows S (set_kept a e cost choice) count
    kept-shows s = same-shows kept-keys s

    module _ (G : Grammar) (room : 12291 ≤ length a) (ascending : Ascending a count) where
      kept_here : kept_at G (set_kept a e cost choice) e ≡ kept G cost choice
      unfolding set_kept
      kept_here =
          let p : cost_at (set (set a (4097 + e) cost) (8194 + e) choice) e ≡ cost =
          get_or-set_other (set a (4097 + e) cost) (8194 + e) (4097 + e) choice 0 (λ q. omega arith)
          ∙ get_or-set_same a (4097 + e) cost 0 (omega arith) in
          let q : choice_at (set (set a (4097 + e) cost) (8194 + e) choice) e ≡ choice =
          get_or-set_same (set a (4097 + e) cost) (8194 + e) choice 0 (omega (arith, length-set a (4097 + e) cost)) in
          λ z. kept G (p z) (q z)

      kept_there : (f : ℕ) → f < count → f ≢ e → kept_at G (set_kept a e cost choice) f ≡ kept_at G a f
      kept_there f h d =
          let p : cost_at (set_kept a e cost choice) f ≡ cost_at a f = kept-other (4097 + f) (λ q. omega arith) (λ q. omega arith) in
          let q : choice_at (set_kept a e cost choice) f ≡ choice_at a f = kept-other (8194 + f) (λ q. omega arith) (λ q. omega arith) in
          λ z. kept G (p z) (q z)

      -- one span is set
      pub store-sets : {x i j : ℕ} → Place a e x i j
          → Sets (store_of G a count) (store_of G (set_kept a e cost choice) count) x i j (kept G cost choice)
      store-sets {x} {i} {j} p = record {
        at = store_at G b count x i j (same-ascending kept-keys ascending) inside (same_place_lem kept-keys inside p) ∙ kept_here;
        each = λ y s m. ⊎_elim
            (λ (h, q). elim (ℕ_discrete (place_of a count y s m) e) [
              | yes r ↦
                  let same = subst (λ f. Place a f y s m) r q in
                  inl (sym same.symbol ∙ p.symbol, (sym same.start ∙ p.start, sym same.ends ∙ p.ends))
              | no d ↦
                  inr
                  (store_at G b count y s m (same-ascending kept-keys ascending) h (same_place_lem kept-keys h q) ∙ kept_there (place_of a count y s m) h d
                  ∙ sym (store_at G a count y s m ascending h q))
            ])
            (λ (r, none). inr
            (store_none G b count y s m (λ f h q. none f h (same_place_lem (other_way kept-keys) h q)) ∙ sym (store_none G a count y s m none)))
            (place-cases a count y s m);
      }
