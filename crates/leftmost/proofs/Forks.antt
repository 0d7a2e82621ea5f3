-- The walk of `before` can always go on, and ends: where two spans of one symbol and start have the same rule, a right place ends
-- elsewhere, and its two spans are kept at a lower cost. So one of two spans precedes the other. Assumes nothing.
use mathlib.Core.Path.{◌≡◌, refl, sym, subst}
use mathlib.Core.Logic.{◌≢◌, ◌⊎◌, inl, inr, ⊎_elim}
use mathlib.Core.List.{List, [], ◌∷◌}
use Prim.Native.Nat.{ℕ, zero, suc, ◌≤◌, ◌<◌}
use native.Mathlib.Decide.{ℕ_discrete}
use native.Mathlib.Omega.{arith}
use lib.Dec.{T}
use lib.ListN.{length, get_or}
use Rattle.symbols.specs.Symbol.{terminal}
use Rattle.theory.specs.Derivation.{Grammar}
use Rattle.leftmost.specs.Within.{Spans, OfLine}
use Rattle.leftmost.specs.Kept.{Store, Total, Sound, NoTokens}
use Rattle.leftmost.specs.Kept.Total.{end, token, span}
use Rattle.leftmost.specs.Says.{Other, start_of, Precedes}
use Rattle.leftmost.specs.Says.Other.{here, further}
use Rattle.leftmost.specs.Says.Precedes.{by_rule, by_part}
use Rattle.leftmost.proofs.Order.{low_or_high}
use Rattle.leftmost.proofs.Said.{no_tokens}

-- two spans of y from s, kept at no more than c the first
pub record Fork (σ : Store) (y s a b c : ℕ) : Type 0 where
  pub apart : a ≢ b
  pub one : (σ y s a).cost ≢ 0
  pub two : (σ y s b).cost ≢ 0
  pub less : (σ y s a).cost ≤ c

-- ---- at the first symbol that ends elsewhere

other_back : {ys ms ns : List ℕ} {i y s a b : ℕ} → Other ys i ms ns y s a b → Other ys i ns ms y s b a
other_back (here n) = here (λ e. n (sym e))
other_back (further o) = further (other_back o)

-- it is right place p, where all before it end at the same places
pub other_at : (ys : List ℕ) (i : ℕ) (ms ns : List ℕ) (p : ℕ) → p < length ys → length ms ≡ length ys → length ns ≡ length ys
    → ((q : ℕ) → q < p → get_or ms q 0 ≡ get_or ns q 0) → get_or ms p 0 ≢ get_or ns p 0
    → Other ys i ms ns (get_or ys p 0) (start_of i ms p) (get_or ms p 0) (get_or ns p 0)
other_at [] i ms ns p h e f same n = absurd (omega arith)
other_at (y ∷ ys) i [] ns p h e f same n = absurd (omega arith)
other_at (y ∷ ys) i (m ∷ ms) [] p h e f same n = absurd (omega arith)
other_at (y ∷ ys) i (m ∷ ms) (k ∷ ns) zero h e f same n = here n
other_at (y ∷ ys) i (m ∷ ms) (k ∷ ns) (suc p) h e f same n =
    let o = other_at ys m ms ns p (omega arith) (omega arith) (omega arith) (λ q l. same (suc q) (omega arith)) n in
    subst (λ w. Other (y ∷ ys) i (m ∷ ms) (w ∷ ns) (get_or ys p 0) (get_or (m ∷ ms) p 0) (get_or ms p 0) (get_or ns p 0)) (same 0 (omega arith))
    (further (subst (λ w. Other ys m ms ns (get_or ys p 0) w (get_or ms p 0) (get_or ns p 0)) (start p) o))
  where
    start : (p : ℕ) → start_of m ms p ≡ get_or (m ∷ ms) p 0
    start zero = refl
    start (suc p) = refl

module _ {line : List ℕ} {σ : Store} (none : NoTokens σ) where
  -- what follows a token has the same sum
  after-token : {y i m j c : ℕ} {ys ms : List ℕ} → T (terminal y) → Total line σ (y ∷ ys) i (m ∷ ms) j c → Total line σ ys m ms j c
  after-token t (token t' h e u) = u
  after-token {y} {i} {m} t (span z u q) = absurd (none y i m t z)

  other_fork : {ys ms ns : List ℕ} {i j k y s a b c d : ℕ} → Other ys i ms ns y s a b → Total line σ ys i ms j c → Total line σ ys i ns k d
      → Fork σ y s a b c
  other_fork (here n) (token t h e u) (token t' h' e' v) = absurd (n refl)
  other_fork (here {y = y} {i = i} {n = m} n) (token t h e u) (span z v q) = absurd (none y i m t z)
  other_fork (here {y = y} {i = i} {m = m} n) (span z u q) (token t h e v) = absurd (none y i m t z)
  other_fork (here n) (span z u q) (span z' v q') = record { apart = n; one = z; two = z'; less = omega arith }
  other_fork (further o) (token t h e u) v = other_fork o u (after-token t v)
  other_fork (further {x = y} {i = i} {m = m} o) (span z u q) (token t h e v) = absurd (none y i m t z)
  other_fork (further o) (span z u q) (span z' v q') =
      let f = other_fork o u v in
      let l = f.less in
      record { apart = f.apart; one = f.one; two = f.two; less = omega arith }

  some-other : {ys ms ns : List ℕ} {i j k c d : ℕ} → Total line σ ys i ms j c → Total line σ ys i ns k d → j ≢ k
      → (y : ℕ) × (s : ℕ) × (a : ℕ) × (b : ℕ) × Other ys i ms ns y s a b
  some-other end end n = absurd (n refl)
  some-other (token t h e u) (token t' h' e' v) n = let (y, s, a, b, o) = some-other u v n in (y, s, a, b, further o)
  some-other {ys = y ∷ ys} {i = i} (token t h e u) (span {m = m} z v q) n = absurd (none y i m t z)
  some-other {ys = y ∷ ys} {i = i} (span {m = m} z u q) (token t h e v) n = absurd (none y i m t z)
  some-other {k = k} {d = d} (span {y = y} {i = i} {m = m} {ms = ms} z u q) (span {m = m'} {c = c'} {ys = ys} {ms = ns} z' v q') n =
      elim (ℕ_discrete m m') [
        | yes e ↦
            let (x, s, a, b, o) = some-other u (subst (λ w. Total line σ ys w ns k c') (sym e) v) n in
            (x, s, a, b, subst (λ w. Other (y ∷ ys) i (m ∷ ms) (w ∷ ns) x s a b) e (further o))
        | no e ↦ (y, i, m, m', here e)
      ]

-- ---- the walk

module _ {G : Grammar} {line : List ℕ} {S : Spans} {most : ℕ} {σ : Store} (of_line : OfLine line S) (sound : Sound G line S most σ)
    {x i a b : ℕ} (one : (σ x i a).cost ≢ 0) (two : (σ x i b).cost ≢ 0) (same : (σ x i a).rule ≡ (σ x i b).rule) where
  second : Total line σ (G.right (σ x i a).rule) i (σ x i b).ends b (sound x i b two).sum
  second = subst (λ r. Total line σ (G.right r) i (σ x i b).ends b (sound x i b two).sum) (sym same) (sound x i b two).offer.total

  -- the next two spans are kept, and the first costs less than the first had
  pub walk_on : {y s c d : ℕ} → Other (G.right (σ x i a).rule) i (σ x i a).ends (σ x i b).ends y s c d
      → (c ≢ d) × ((σ y s c).cost ≢ 0) × ((σ y s d).cost ≢ 0) × ((σ y s c).cost < (σ x i a).cost)
  walk_on o =
      let f = other_fork (no_tokens sound of_line) o (sound x i a one).offer.total second in
      let l = f.less in
      let h = (sound x i a one).enough in
      (f.apart, f.one, f.two, omega arith)

  -- and there is a next step
  pub walk_goes_on : a ≢ b
      → (y : ℕ) × (s : ℕ) × (c : ℕ) × (d : ℕ) × Other (G.right (σ x i a).rule) i (σ x i a).ends (σ x i b).ends y s c d
  walk_goes_on n = some-other (no_tokens sound of_line) (sound x i a one).offer.total second n

module _ {G : Grammar} {line : List ℕ} {S : Spans} {most : ℕ} {σ : Store} (of_line : OfLine line S) (sound : Sound G line S most σ) where
  decided : (n : ℕ) {x i a b : ℕ} → (σ x i a).cost ≤ n → (σ x i a).cost ≢ 0 → (σ x i b).cost ≢ 0 → a ≢ b
      → Precedes G σ x i a b ⊎ Precedes G σ x i b a
  decided zero h one two n = absurd (one (omega arith))
  decided (suc k) {x} {i} {a} {b} h one two n = elim (ℕ_discrete (σ x i a).rule (σ x i b).rule) [
    | yes e ↦
        let (y, s, c, d, o) = walk_goes_on of_line sound one two e n in
        let (p, u, v, l) = walk_on of_line sound one two e o in
        ⊎_elim (λ w. inl (by_part e o w))
        (λ w. inr (by_part (sym e) (subst (λ r. Other (G.right r) i (σ x i b).ends (σ x i a).ends y s d c) e (other_back o)) w))
        (decided k (omega arith) u v p)
    | no e ↦ ⊎_elim (λ w. inl (by_rule (omega arith))) (λ w. inr (by_rule w)) (low_or_high (σ x i a).rule (σ x i b).rule)
  ]

  -- of two kept spans of one symbol and start, one precedes the other
  pub walk_decides : {x i a b : ℕ} → (σ x i a).cost ≢ 0 → (σ x i b).cost ≢ 0 → a ≢ b → Precedes G σ x i a b ⊎ Precedes G σ x i b a
  walk_decides {x} {i} {a} one two n = decided (σ x i a).cost (omega arith) one two n
