-- The model lists exactly what W-207 asks for: the first of the fewest where it fits, and nothing only where none does.
-- Assumes nothing.
use mathlib.Core.Path.{◌≡◌, refl, sym, ◌∙◌, ap, subst}
use mathlib.Core.Logic.{◌↔◌, ◌⊎◌, inl, inr, ⊎_elim}
use mathlib.Core.Bool.{Bool, true, false}
use mathlib.Core.List.{List, [], ◌∷◌, ◌++◌}
use Prim.Native.Nat.{ℕ, zero, suc, ◌+◌, ◌≤◌, ◌<◌}
use native.Mathlib.Decide.{ℕ_discrete}
use native.Mathlib.Omega.{arith}
use lib.Dec.{T, eqb, ltb}
use lib.ListN.{length, get_or}
use Rattle.laws.specs.Choice.{◌and◌, when}
use Rattle.laws.proofs.Choice.{when-cases}
use Rattle.laws.proofs.Tests.{and_both, eqb_iff, ltb_iff}
use Rattle.symbols.specs.Symbol.{terminal, nonterminal}
use Rattle.theory.specs.Derivation.{Grammar}
use Rattle.leftmost.specs.Leftmost.{Before}
use Rattle.leftmost.specs.Leftmost.Before.{lower, later}
use Rattle.leftmost.specs.Within.{Spells}
use Rattle.leftmost.specs.Within.Spells.{stop, token, apply}
use Rattle.leftmost.specs.Model.{Found, or_else, put, lowest, by_the_rule, walk, listed}
use Rattle.leftmost.specs.Model.Found.{nothing, some}
use Rattle.leftmost.proofs.Parts.{not_both, join, split}
use Rattle.leftmost.proofs.Walks.{Lefts, Any}

-- ---- the first of a set of lists

-- what is found is the first of the lists that Q has; nothing, where Q has none
pub data FirstOf (Q : List ℕ → Type 0) : Found → Type 0 where
  none : ((qs : List ℕ) → Q qs → ⊥) → FirstOf Q nothing
  one : {rs : List ℕ} → Q rs → ((qs : List ℕ) → Q qs → (rs ≡ qs) ⊎ Before rs qs) → FirstOf Q (some rs)

of_true : {b : Bool} → b ≡ true → T b
of_true e = subst T (sym e) tt

of_false : {b : Bool} → b ≡ false → T b → ⊥
of_false e t = subst T e t

first_as : {Q P : List ℕ → Type 0} → ((qs : List ℕ) → Q qs ↔ P qs) → {d : Found} → FirstOf Q d → FirstOf P d
first_as h (none f) = none (λ qs p. f qs ((h qs).1 p))
first_as h (one {rs = rs} q f) = one ((h rs).0 q) (λ qs p. f qs ((h qs).1 p))

first_or : {Q P : List ℕ → Type 0} → ((q p : List ℕ) → Q q → P p → Before q p) → {d e : Found} → FirstOf Q d → FirstOf P e
    → FirstOf (λ l. Q l ⊎ P l) (or_else d e)
unfolding or_else
first_or h (none f) (none g) = none (λ qs q. ⊎_elim (f qs) (g qs) q)
first_or h (none f) (one p g) = one (inr p) (λ qs q. ⊎_elim (λ a. absurd (f qs a)) (g qs) q)
first_or h (one {rs = rs} q f) g = one (inl q) (λ qs a. ⊎_elim (f qs) (λ p. inr (h rs qs q p)) a)

first-put : (r : ℕ) {Q : List ℕ → Type 0} {d : Found} → FirstOf Q d → FirstOf (λ l. (qs : List ℕ) × (r ∷ qs ≡ l) × Q qs) (put r d)
unfolding put
first-put r (none f) = none (λ l (qs, e, q). f qs q)
first-put r (one {rs = rs} q f) = one (rs, refl, q)
    (λ l (qs, e, p). ⊎_elim (λ a. inl (ap (λ z. r ∷ z) a ∙ e)) (λ b. inr (subst (λ z. Before (r ∷ rs) z) e (later b))) (f qs p))

first-when : {Q : List ℕ → Type 0} (b : Bool) {d : Found} → (T b → FirstOf Q d) → ((qs : List ℕ) → Q qs → T b)
    → FirstOf Q (when b d nothing)
first-when {Q} b {d} f g = when-cases (FirstOf Q) b (λ e. f (of_true e)) (λ e. none (λ qs q. of_false e (g qs q)))

-- ---- the lowest number whose list is there

lowest-first : {Q : ℕ → List ℕ → Type 0} (f : ℕ → Found) → ((k : ℕ) → FirstOf (Q k) (f k))
    → ((k l : ℕ) (q p : List ℕ) → k < l → Q k q → Q l p → Before q p)
    → (n r : ℕ) → FirstOf (λ l. (k : ℕ) × (r ≤ k) × (k < r + n) × Q k l) (lowest n r f)
unfolding lowest
lowest-first f h o zero r = none (λ qs (k, a, b, q). omega arith)
lowest-first {Q} f h o (suc n) r = first_as
    (λ qs. (
      λ c. ⊎_elim (λ q. (r, omega arith, omega arith, q)) (λ (k, a, b, q). (k, omega arith, omega arith, q)) c,
      λ (k, a, b, q). elim (ℕ_discrete k r) [ yes e ↦ inl (subst (λ z. Q z qs) e q) | no d ↦ inr (k, omega arith, omega arith, q) ],
    ))
    (first_or (λ q p a (k, b, c, z). o r k q p (omega arith) a z) (h r) (lowest-first f h o n (suc r)))

-- ---- the lists of just c applications

abbrev pub Lists : Grammar → List ℕ → ℕ → List ℕ → ℕ → ℕ → List ℕ → Type 0
Lists G line c xs i j rs = Spells G line Any xs i j rs × (length rs ≡ c)

-- those whose next application is the rule r
record ByRule (G : Grammar) (line : List ℕ) (c x : ℕ) (xs : List ℕ) (i j r : ℕ) (l : List ℕ) : Type 0 where
  current : T (G.current r)
  left : G.left r ≡ x
  rest : List ℕ
  is : r ∷ rest ≡ l
  spells : Spells G line Any (G.right r ++ xs) i j rest
  many : suc (length rest) ≡ c

module _ {G : Grammar} (lefts : Lefts G) (places : ℕ) (below : (r : ℕ) → T (G.current r) → r < places) (line : List ℕ) where
  at-end : (c i j : ℕ) → (last : Bool) → T last ↔ (c ≡ 0) → FirstOf (Lists G line c [] i j) (when (last and eqb i j) (some []) nothing)
  at-end c i j last z = first-when (last and eqb i j)
      (λ t. let (a, b) = (and_both last (eqb i j)).0 t in
      let e = z.0 a in
      one (subst (λ k. Spells G line Any [] i k []) ((eqb_iff i j).0 b) stop, sym e) (λ qs (s, h). inl (none_left qs (h ∙ e))))
      (λ qs (s, h). (and_both last (eqb i j)).1 (z.1 (sym h ∙ ap length (stopped s).1), (eqb_iff i j).1 (stopped s).0))
    where
      none_left : (qs : List ℕ) → length qs ≡ 0 → [] ≡ qs
      none_left [] h = refl
      none_left (q ∷ qs) h = absurd (omega arith)

      stopped : {qs : List ℕ} {i j : ℕ} → Spells G line Any [] i j qs → (i ≡ j) × (qs ≡ [])
      stopped stop = (refl, refl)

  module _ (last : Bool) (next : List ℕ → ℕ → ℕ → Found) (c : ℕ) (z : T last ↔ (c ≡ 0))
      (after : (ys : List ℕ) (i j : ℕ) → FirstOf (λ qs. Spells G line Any ys i j qs × (suc (length qs) ≡ c)) (next ys i j)) where
    by_rule : (x : ℕ) (xs : List ℕ) (i j r : ℕ)
        → FirstOf (ByRule G line c x xs i j r) (by_the_rule G next x xs i j r)
    unfolding by_the_rule
    by_rule x xs i j r = first-when (G.current r and eqb (G.left r) x)
        (λ t. let (a, b) = (and_both (G.current r) (eqb (G.left r) x)).0 t in
        first_as (λ qs. (
          λ (ps, e, (s, h)). record { current = a; left = (eqb_iff _ _).0 b; rest = ps; is = e; spells = s; many = h },
          λ p. (p.rest, p.is, (p.spells, p.many)),
        )) (first-put r (after (G.right r ++ xs) i j)))
        (λ qs p. (and_both (G.current r) (eqb (G.left r) x)).1 (p.current, (eqb_iff _ _).1 p.left))

    by-rules : (x : ℕ) (xs : List ℕ) (i j : ℕ) → (T (terminal x) → ⊥)
        → FirstOf (Lists G line c (x ∷ xs) i j) (lowest places 0 (by_the_rule G next x xs i j))
    by-rules x xs i j n = first_as
        (λ qs. (λ (k, a, b, p). to p, from qs))
        (lowest-first {Q = ByRule G line c x xs i j} (by_the_rule G next x xs i j) (by_rule x xs i j)
        (λ k l q p h s t. subst (λ u. Before u p) s.is (subst (λ u. Before (k ∷ s.rest) u) t.is (lower h))) places 0)
      where
        applied : {r : ℕ} {qs : List ℕ} (p : ByRule G line c x xs i j r qs) → Spells G line Any (x ∷ xs) i j (r ∷ p.rest)
        applied {r} p =
            let s = split (G.right r) xs p.spells in
            let n = subst (λ y. T (nonterminal y)) p.left (lefts.of r p.current) in
            apply r p.current p.left n s.fronts s.backs s.joined

        to : {r : ℕ} {qs : List ℕ} → ByRule G line c x xs i j r qs → Lists G line c (x ∷ xs) i j qs
        to {r} p = subst (λ u. Lists G line c (x ∷ xs) i j u) p.is (applied p, p.many)

        from : (qs : List ℕ) → Lists G line c (x ∷ xs) i j qs → (k : ℕ) × (0 ≤ k) × (k < 0 + places) × ByRule G line c x xs i j k qs
        from qs (token t k e s, h) = absurd (n t)
        from qs (apply {rs = ps} r a b z d s e, h) =
            let l = below r a in
            let w = subst (Spells G line Any (G.right r ++ xs) i j) e (join d s) in
            (r, omega arith, omega arith, record { current = a; left = b; rest = ps; is = refl; spells = w; many = h })

    walk_first : (xs : List ℕ) (i j : ℕ) → FirstOf (Lists G line c xs i j) (walk G places line last next xs i j)
    unfolding walk
    walk_first [] i j = at-end c i j last z
    walk_first (x ∷ xs) i j = when-cases (FirstOf (Lists G line c (x ∷ xs) i j)) (terminal x)
        (λ e. first-when (ltb i (length line) and eqb (get_or line i 0) x)
        (λ t. let (a, b) = (and_both (ltb i (length line)) (eqb (get_or line i 0) x)).0 t in
        first_as (λ qs. (λ (s, h). (token (of_true e) ((ltb_iff _ _).0 a) ((eqb_iff _ _).0 b) s, h), λ (s, h). ((passed (of_true e) s).1, h)))
        (walk_first xs (suc i) j))
        (λ qs (s, h).
        let (a, b) = (passed (of_true e) s).0 in
        (and_both (ltb i (length line)) (eqb (get_or line i 0) x)).1 ((ltb_iff _ _).1 a, (eqb_iff _ _).1 b)))
        (λ e. by-rules x xs i j (of_false e))
      where
        passed : {x i j : ℕ} {xs qs : List ℕ} → T (terminal x) → Spells G line Any (x ∷ xs) i j qs
            → ((i < length line) × (get_or line i 0 ≡ x)) × Spells G line Any xs (suc i) j qs
        passed t (token u h e s) = ((h, e), s)
        passed {x} t (apply r a b z d s e) = absurd (not_both x t z)

  pub listed-first : (c : ℕ) (xs : List ℕ) (i j : ℕ) → FirstOf (Lists G line c xs i j) (listed G places line c xs i j)
  unfolding listed
  listed-first zero = walk_first true (λ xs i j. nothing) 0 (λ t. refl, λ e. tt) (λ ys i j. none (λ qs (s, h). omega arith))
  listed-first (suc c) = walk_first false (listed G places line c) (suc c) (λ t. absurd t, λ e. omega arith)
      (λ ys i j. first_as (λ qs. (λ (s, h). (s, ap suc h), λ (s, h). (s, omega arith))) (listed-first c ys i j))
