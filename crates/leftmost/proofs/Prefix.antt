-- Comparing from the left always decides: read from the left, the rules fix the form at each step, and with it where the list ends. So two
-- lists of one form from one place are equal, with the same end, or differ at a place that both have. Assumes nothing.
use mathlib.Core.Path.{◌≡◌, refl, sym, ap, subst}
use mathlib.Core.Logic.{◌≢◌, ◌⊎◌, inl, inr, ⊎_elim}
use mathlib.Core.List.{List, [], ◌∷◌, ◌++◌}
use Prim.Native.Nat.{ℕ, zero, suc, ◌<◌}
use native.Mathlib.Decide.{ℕ_discrete}
use native.Mathlib.Omega.{arith}
use Rattle.theory.specs.Derivation.{Grammar}
use Rattle.leftmost.specs.Leftmost.{Before}
use Rattle.leftmost.specs.Leftmost.Before.{lower, later}
use Rattle.leftmost.specs.Within.{Spans, Spells, OfLine}
use Rattle.leftmost.specs.Within.Spells.{stop, token, apply}
use Rattle.leftmost.proofs.Order.{before_longer, before-after}
use Rattle.leftmost.proofs.Parts.{not_both}

-- how two lists of one form stand: the same, or one before the other
pub data Ordered (rs qs : List ℕ) (j k : ℕ) : Type 0 where
  same : rs ≡ qs → j ≡ k → Ordered rs qs j k
  first : Before rs qs → Ordered rs qs j k
  second : Before qs rs → Ordered rs qs j k

either_way : (a b : ℕ) → a ≢ b → (a < b) ⊎ (b < a)
either_way zero zero n = absurd (n refl)
either_way zero (suc b) n = inl (omega arith)
either_way (suc a) zero n = inr (omega arith)
either_way (suc a) (suc b) n = ⊎_elim (λ h. inl (omega arith)) (λ h. inr (omega arith)) (either_way a b (λ e. n (ap suc e)))

-- after the same rule: the right side decides, or the rest does
in_turn : (r : ℕ) {ps us qs vs rs ss : List ℕ} {m n j k : ℕ} → Ordered ps us m n → (m ≡ n → Ordered qs vs j k) → ps ++ qs ≡ rs
    → us ++ vs ≡ ss
    → Ordered (r ∷ rs) (r ∷ ss) j k
in_turn r {ps} {us} {qs} {vs} {rs} {ss} {m} {n} {j} {k} o rest a b =
    subst (λ l. Ordered (r ∷ l) (r ∷ ss) j k) a (subst (λ l. Ordered (r ∷ (ps ++ qs)) (r ∷ l) j k) b (go o))
  where
    after : (us : List ℕ) → Ordered qs vs j k → Ordered (r ∷ (us ++ qs)) (r ∷ (us ++ vs)) j k
    after us (same e f) = same (ap (λ l. r ∷ (us ++ l)) e) f
    after us (first c) = first (later (before-after us c))
    after us (second c) = second (later (before-after us c))

    go : Ordered ps us m n → Ordered (r ∷ (ps ++ qs)) (r ∷ (us ++ vs)) j k
    go (same e f) = subst (λ l. Ordered (r ∷ (l ++ qs)) (r ∷ (us ++ vs)) j k) (sym e) (after us (rest f))
    go (first c) = first (later (before_longer c qs vs))
    go (second c) = second (later (before_longer c vs qs))

module _ {G : Grammar} {line : List ℕ} {S : Spans} (of_line : OfLine line S) where
  pub ordered : {xs rs qs : List ℕ} {i j k : ℕ} → Spells G line S xs i j rs → Spells G line S xs i k qs → Ordered rs qs j k
  ordered stop stop = same refl refl
  ordered (token t h e s) (token t' h' e' s') = ordered s s'
  ordered {xs = x ∷ xs} (token t h e s) (apply r c l z d s' e') = absurd (not_both x t (of_line.symbol _ _ _ z))
  ordered {xs = x ∷ xs} (apply r c l z d s e) (token t h e' s') = absurd (not_both x t (of_line.symbol _ _ _ z))
  ordered {xs = x ∷ xs} {i = i} {j = j} {k = k} (apply {rs = rs} r c l z d s e)
      (apply {m = n} {ps = us} {qs = vs} {rs = ss} q a b y f t p) =
      elim (ℕ_discrete r q) [
        | yes w ↦ subst (λ y. Ordered (r ∷ rs) (y ∷ ss) j k) w
            (in_turn r (ordered d (subst (λ y. Spells G line S (G.right y) i n us) (sym w) f))
            (λ m. ordered s (subst (λ y. Spells G line S xs y k vs) (sym m) t)) e p)
        | no n ↦ ⊎_elim (λ a. first (lower a)) (λ b. second (lower b)) (either_way r q n)
      ]

  -- a list that goes on where another has ended is that list, and makes the same tokens
  pub prefix_free : {xs rs : List ℕ} {i j k : ℕ} (more : List ℕ) → Spells G line S xs i j rs → Spells G line S xs i k (rs ++ more)
      → (more ≡ []) × (j ≡ k)
  prefix_free {rs = rs} {j = j} {k = k} more s s' = go (ordered s s')
    where
      no_more : (rs more : List ℕ) → rs ≡ rs ++ more → more ≡ []
      no_more [] more e = sym e
      no_more (r ∷ rs) more e = no_more rs more (cc)

      not-before : {rs qs : List ℕ} → Before rs qs → (more : List ℕ) → qs ≡ rs ++ more → ⊥
      not-before (lower {a = a} {b = b} h) more e = let f : b ≡ a = cc in omega arith
      not-before (later {rs = rs} {qs = qs} b) more e = let f : qs ≡ rs ++ more = cc in not-before b more f

      not_after : {rs qs : List ℕ} → Before qs rs → (more : List ℕ) → qs ≡ rs ++ more → ⊥
      not_after (lower {a = a} {b = b} h) more e = let f : a ≡ b = cc in omega arith
      not_after (later {rs = qs} {qs = rs} b) more e = let f : qs ≡ rs ++ more = cc in not_after b more f

      go : Ordered rs (rs ++ more) j k → (more ≡ []) × (j ≡ k)
      go (same e f) = (no_more rs more e, f)
      go (first b) = absurd (not-before b more refl)
      go (second b) = absurd (not_after b more refl)
