-- A span's place among those in order, found or not there. Assumes nothing.
use mathlib.Core.Path.{◌≡◌, sym, ap, subst, ◌∙◌}
use mathlib.Core.Logic.{◌↔◌, ◌⊎◌, inl, inr, ⊎_elim}
use mathlib.Core.List.{List}
use Prim.Native.Nat.{ℕ, ◌+◌, ◌-◌, ◌≤◌, ◌<◌, zero-le}
use native.Mathlib.Decide.{dec_lt, ℕ_discrete}
use native.Mathlib.Omega.{arith}
use borrow.Rule.Slice.PartMut.{mid_of, mid_len}
use lib.Dec.{T, eqb}
use lib.ListN.{length, get_or, drop}
use Rattle.std.proofs.Common.{Result, Ok, Err}
use Rattle.std.specs.List.Sorted.{IsBinarySearchResult}
use Rattle.std.specs.Ordering.{nat_cmp}
use Rattle.std.specs.Result.{MatchResult}
use Rattle.std.proofs.lemmas.List.{get_or-take, get_or-drop}
use Rattle.std.proofs.lemmas.List.Sorted.{searched}
use Rattle.laws.specs.Choice.{◌and◌}
use Rattle.laws.specs.Lists.{up_from}
use Rattle.laws.proofs.Tests.{and_both, eqb_iff}
use Rattle.laws.proofs.Lists.{first_in, in_up}
use Rattle.spans.specs.Area.{key_of, key_at, symbol_at, start_at, end_at, first_at, Place, is_place, place_of}
use Rattle.spans.specs.Gathered.{First, Ascending, Ordered, OrderedAt}
use Rattle.spans.proofs.Keys.{key_place, place_key, one_place}

is-place : (a : List ℕ) (x i j e : ℕ) → T (is_place a x i j e) ↔ Place a e x i j
is-place a x i j e = (
  λ t.
      let (p, r) = (and_both (eqb (symbol_at a e) x) (eqb (start_at a e) i and eqb (end_at a e) j)).0 t in
      let (q, s) = (and_both (eqb (start_at a e) i) (eqb (end_at a e) j)).0 r in
      record { symbol = (eqb_iff (symbol_at a e) x).0 p; start = (eqb_iff (start_at a e) i).0 q; ends = (eqb_iff (end_at a e) j).0 s },
  λ p.
      (and_both (eqb (symbol_at a e) x) (eqb (start_at a e) i and eqb (end_at a e) j)).1 (
        (eqb_iff (symbol_at a e) x).1 p.symbol,
        (and_both (eqb (start_at a e) i) (eqb (end_at a e) j)).1 ((eqb_iff (start_at a e) i).1 p.start, (eqb_iff (end_at a e) j).1 p.ends),
      ),
)

module _ (a : List ℕ) (count x i j : ℕ) where
  pub place-cases : ((place_of a count x i j < count) × Place a (place_of a count x i j) x i j)
      ⊎ ((place_of a count x i j ≡ count) × ((e : ℕ) → e < count → Place a e x i j → ⊥))
  unfolding place_of
  place-cases = ⊎_elim
      (λ (m, t). inl (let h = ((in_up 0 count).0 m).1 in omega arith, (is-place a x i j _).0 t))
      (λ (q, none). inr (q, λ e h p. none e ((in_up 0 count).1 (zero-le, omega arith)) ((is-place a x i j e).1 p)))
      (first_in (is_place a x i j) count (up_from 0 count))

  pub place_none : ((e : ℕ) → e < count → Place a e x i j → ⊥) → place_of a count x i j ≡ count
  place_none none = ⊎_elim (λ (h, p). absurd (none (place_of a count x i j) h p)) (λ (q, n). q) place-cases

  pub place_at : {e : ℕ} → Ascending a count → e < count → Place a e x i j → place_of a count x i j ≡ e
  place_at {e} ascending h p = ⊎_elim
      (λ (l, q). one_place a ascending l h (place_key q ∙ sym (place_key p)))
      (λ (q, n). absurd (n e h p))
      place-cases

-- ---- the search

-- the keys between the first place of an end and that of the next, which are in order
module _ (a : List ℕ) (count x i j : ℕ) {lo hi : ℕ} (ordered_at : OrderedAt j a count) (low : lo ≡ first_at a j) (high : hi ≡ first_at a (j + 1)) where
  abbrev ordered : Ordered ordered_at.n a count
  ordered = ordered_at.ordered

  from : First a count j lo
  from = subst (First a count j) (sym low) (ordered.firsts j (omega (arith, ordered_at.inside)))

  to : First a count (j + 1) hi
  to = subst (First a count (j + 1)) (sym high) (ordered.firsts (j + 1) (omega (arith, ordered_at.inside)))

  inside : hi ≤ length a
  inside = omega (arith, to.inside, ordered.few, ordered.room)

  pub ends_up : lo ≤ hi
  ends_up = elim (dec_lt hi lo) [
    | yes p ↦ absurd (omega (arith, from.before hi p, to.after hi (omega arith) (omega (arith, from.inside))))
    | no p ↦ omega arith
  ]

  abbrev part : List ℕ
  part = mid_of lo (hi - lo) a

  long : length part ≡ hi - lo
  long = mid_len lo hi a inside

  at : (k : ℕ) → k < hi - lo → get_or part k 0 ≡ key_at a (lo + k)
  at k g = get_or-take (hi - lo) (drop lo a) k 0 g ∙ get_or-drop lo a k 0

  rises : (k m : ℕ) → k ≤ m → m < length part → get_or part k 0 ≤ get_or part m 0
  rises k m g p = elim (ℕ_discrete k m) [
    | yes q ↦ let e = ap (λ k. get_or part k 0) q in omega arith
    | no d ↦ omega (arith, long, to.inside, at k (omega (arith, long)), at m (omega (arith, long)), ordered.ascending (lo + k) (lo + m) (omega arith) (omega (arith, long, to.inside)))
  ]

  module _ (small : (x < 256) × (i < 256)) where
    here : (e : ℕ) → (e < length part) × (get_or part e 0 ≡ key_of x i j) → (lo + e < count) × (lo + e ≡ place_of a count x i j)
    here e (g, q) =
        let within : lo + e < count = omega (arith, long, to.inside) in
        (within, sym (place_at a count x i j ordered.ascending within (key_place (sym (at e (omega (arith, long))) ∙ q) small.0 small.1)))

    nowhere : (e : ℕ) → (e ≤ length part) × ((k : ℕ) → k < e → get_or part k 0 < key_of x i j)
        × ((k : ℕ) → e ≤ k → k < length part → key_of x i j < get_or part k 0) → place_of a count x i j ≡ count
    nowhere e (g, below, above) =
        place_none a count x i j
        (λ f p place.
        let q = place_key place in
        elim (dec_lt f lo) [
          | yes r ↦ omega (arith, from.before f r)
          | no r ↦ elim (dec_lt f hi) [
            | no s ↦ omega (arith, to.after f (omega arith) p)
            | yes s ↦
                let back : lo + (f - lo) ≡ f = omega arith in
                let is = at (f - lo) (omega arith) ∙ ap (key_at a) back in
                elim (dec_lt (f - lo) e) [
                  | yes t ↦ omega (arith, below (f - lo) t)
                  | no t ↦ omega (arith, above (f - lo) (omega arith) (omega (arith, long)))
                ]
          ]
        ])

    pub searched_for : {key : ℕ} → key ≡ key_of x i j → (r : Result ℕ ℕ) → IsBinarySearchResult (λ y. nat_cmp y key) part r
        → MatchResult r (λ e. (lo + e < count) × (lo + e ≡ place_of a count x i j)) (λ e. place_of a count x i j ≡ count)
    searched_for {key} same r found = go r (searched part (key_of x i j) r (subst (λ k. IsBinarySearchResult (λ y. nat_cmp y k) part r) same found) rises)
      where
        go : (r : Result ℕ ℕ) → MatchResult r (λ e. (e < length part) × (get_or part e 0 ≡ key_of x i j))
            (λ e. (e ≤ length part) × ((k : ℕ) → k < e → get_or part k 0 < key_of x i j)
            × ((k : ℕ) → e ≤ k → k < length part → key_of x i j < get_or part k 0))
            → MatchResult r (λ e. (lo + e < count) × (lo + e ≡ place_of a count x i j)) (λ e. place_of a count x i j ≡ count)
        go (Ok e) m = here e m
        go (Err e) m = nowhere e m
