-- The model lists what W-207 asks for: the first of the fewest where it fits into so many places, and nothing just where none does.
-- So a first of the fewest exists wherever there is a derivation. Assumes nothing.
use mathlib.Core.Path.{◌≡◌, refl, ◌∙◌, ap, subst}
use mathlib.Core.Logic.{◌↔◌}
use mathlib.Core.List.{List, [], ◌∷◌}
use Prim.Native.Nat.{ℕ, zero, suc, ◌+◌, ◌≤◌, ◌<◌}
use native.Mathlib.Nat.{zero-add}
use native.Mathlib.Decide.{ℕ_discrete}
use native.Mathlib.Omega.{arith}
use lib.Dec.{T}
use lib.ListN.{length}
use Rattle.symbols.specs.Symbol.{START}
use Rattle.theory.specs.Derivation.{Grammar}
use Rattle.leftmost.specs.Leftmost.{Tokens, Leftmost, First}
use Rattle.leftmost.specs.Within.{Spells, Best}
use Rattle.leftmost.specs.Model.{Found, or_else, fewestFrom, derivation}
use Rattle.leftmost.specs.Model.Found.{nothing, some}
use Rattle.leftmost.proofs.Unique.{first-unique}
use Rattle.leftmost.proofs.Walks.{Lefts, Any, leftmost_spells}
use Rattle.leftmost.proofs.Closed.{closed-first, any_closed}
use Rattle.leftmost.proofs.Model.{FirstOf, Lists, listed-first}
use Rattle.leftmost.proofs.Model.FirstOf.{none, one}

-- the current rules are numbered below the number of rule places
pub record Placed (G : Grammar) (places : ℕ) : Type 0 where
  pub below : (r : ℕ) → T (G.current r) → r < places

-- what was found among the lists of fewer than n applications
data FewestOf (G : Grammar) (line xs : List ℕ) (i j n : ℕ) : Found → Type 0 where
  best : {rs : List ℕ} → Best G line Any xs i j rs → length rs < n → FewestOf G line xs i j n (some rs)
  longer : ((qs : List ℕ) → Spells G line Any xs i j qs → n ≤ length qs) → FewestOf G line xs i j n nothing

module _ {G : Grammar} (lefts : Lefts G) {places : ℕ} (placed : Placed G places) (line : List ℕ) where
  -- none has fewer than c applications; d is the first of those with c, e the best of those with fewer than n
  next-fewest : {xs : List ℕ} {i j c n : ℕ} {d e : Found} → ((qs : List ℕ) → Spells G line Any xs i j qs → c ≤ length qs) → c < n
      → FirstOf (Lists G line c xs i j) d
      → (((qs : List ℕ) → Spells G line Any xs i j qs → suc c ≤ length qs) → FewestOf G line xs i j n e)
      → FewestOf G line xs i j n (or_else d e)
  unfolding or_else
  next-fewest {c = c} h l (one {rs = rs} (s, q) f) k = best
      (record { spells = s; least = λ qs t. let m = h qs t in omega arith; first = λ qs t e. f qs (t, e ∙ q) }) (omega arith)
  next-fewest {c = c} h l (none f) k = k (λ qs s. let m = h qs s in more qs s (f qs) m)
    where
      more : {xs : List ℕ} {i j : ℕ} (qs : List ℕ) → Spells G line Any xs i j qs → (Lists G line c xs i j qs → ⊥) → c ≤ length qs
          → suc c ≤ length qs
      more qs s g m = elim (ℕ_discrete (length qs) c) [ yes e ↦ absurd (g (s, e)) | no d ↦ omega arith ]

  fewest-from : (n c : ℕ) (xs : List ℕ) (i j : ℕ) → ((qs : List ℕ) → Spells G line Any xs i j qs → c ≤ length qs)
      → FewestOf G line xs i j (c + n) (fewestFrom G places line n c xs i j)
  unfolding fewestFrom
  fewest-from zero c xs i j h = longer (λ qs s. let m = h qs s in omega arith)
  fewest-from (suc n) c xs i j h = next-fewest h (omega arith) (listed-first lefts places placed.below line c xs i j)
      (λ k. let m : suc c + n ≡ c + suc n = omega arith in
      subst (λ z. FewestOf G line xs i j z (fewestFrom G places line n (suc c) xs i j)) m (fewest-from n (suc c) xs i j k))

  module _ (tokens : Tokens line) where
    -- `Leftmost` and `First`, by places
    leads : (qs : List ℕ) → Leftmost G (START ∷ []) qs line ↔ Spells G line Any (START ∷ []) 0 (length line) qs
    leads qs = leftmost_spells lefts tokens (START ∷ []) qs

    is-first : (rs : List ℕ) → First G line rs ↔ Best G line Any (START ∷ []) 0 (length line) rs
    is-first rs = closed-first tokens (any_closed tokens lefts) rs

    model-best : (most : ℕ) → FewestOf G line (START ∷ []) 0 (length line) (suc most) (derivation G places line most)
    unfolding derivation
    model-best most =
        subst (λ n. FewestOf G line (START ∷ []) 0 (length line) n (fewestFrom G places line (suc most) 0 (START ∷ []) 0 (length line)))
        (zero-add (suc most)) (fewest-from (suc most) 0 (START ∷ []) 0 (length line) (λ qs s. omega arith))

    -- wherever there is a derivation there is a first of the fewest
    pub first-exists : {qs : List ℕ} → Leftmost G (START ∷ []) qs line → (rs : List ℕ) × First G line rs
    first-exists {qs} d = found (model-best (length qs))
      where
        found : {e : Found} → FewestOf G line (START ∷ []) 0 (length line) (suc (length qs)) e → (rs : List ℕ) × First G line rs
        found (best {rs = rs} b l) = (rs, (is-first rs).1 b)
        found (longer f) = absurd (let m = f qs ((leads qs).0 d) in omega arith)

    -- the list, exactly where it fits
    pub model-lists : (most : ℕ) (rs : List ℕ) → (derivation G places line most ≡ some rs) ↔ (First G line rs × (length rs ≤ most))
    model-lists most rs = (λ e. to (model-best most) e, λ (f, h). from (model-best most) f h)
      where
        to : {d : Found} → FewestOf G line (START ∷ []) 0 (length line) (suc most) d → d ≡ some rs → First G line rs × (length rs ≤ most)
        to (best {rs = qs} b l) e =
            let q : qs ≡ rs = cc in
            let m = ap length q in
            (subst (First G line) q ((is-first qs).1 b), omega arith)
        to (longer f) e = absurd (let z : ◌≡◌ {A = ℕ} 0 1 = cc in omega arith)

        from : {d : Found} → FewestOf G line (START ∷ []) 0 (length line) (suc most) d → First G line rs → length rs ≤ most → d ≡ some rs
        from (best {rs = qs} b l) f h = ap some (first-unique ((is-first qs).1 b) f)
        from (longer g) f h = absurd (let m = g rs ((is-first rs).0 f).spells in omega arith)

    -- nothing, exactly where the fewest exceeds it
    pub model-nothing : (most : ℕ)
        → (derivation G places line most ≡ nothing) ↔ ((qs : List ℕ) → Leftmost G (START ∷ []) qs line → most < length qs)
    model-nothing most = (λ e qs d. to (model-best most) e qs d, λ h. from (model-best most) h)
      where
        to : {d : Found} → FewestOf G line (START ∷ []) 0 (length line) (suc most) d → d ≡ nothing
            → (qs : List ℕ) → Leftmost G (START ∷ []) qs line → most < length qs
        to (best b l) e qs d = absurd (let z : ◌≡◌ {A = ℕ} 0 1 = cc in omega arith)
        to (longer f) e qs d = f qs ((leads qs).0 d)

        from : {d : Found} → FewestOf G line (START ∷ []) 0 (length line) (suc most) d
            → ((qs : List ℕ) → Leftmost G (START ∷ []) qs line → most < length qs) → d ≡ nothing
        from (longer f) h = refl
        from (best {rs = qs} b l) h = absurd (let m = h qs ((leads qs).1 b.spells) in omega arith)
