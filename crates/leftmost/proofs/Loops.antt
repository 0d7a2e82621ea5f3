-- A round, the numbers put and the steps of emission, each with one more at the end, as a loop makes them. Assumes nothing.
use mathlib.Core.Path.{◌≡◌, refl, sym, ◌∙◌, ap}
use mathlib.Core.List.{List, [], ◌∷◌, ◌++◌}
use Prim.Native.Nat.{ℕ, zero, suc, ◌+◌}
use native.Mathlib.Nat.{add-zero}
use native.Mathlib.Omega.{arith}
use lib.ListN.{set}
use Rattle.theory.specs.Derivation.{Grammar}
use Rattle.leftmost.specs.Kept.{Kept, Store, Sets}
use Rattle.leftmost.specs.Comes.{Comes}
use Rattle.leftmost.specs.Cells.{Pass}
use Rattle.leftmost.specs.Cells.Pass.{through, one}
use Rattle.leftmost.specs.Emission.{place, place_after, step, steps}

-- a span more of a round
pub pass_on : {G : Grammar} {line : List ℕ} {most i j : ℕ} {σ τ υ : Store} {xs : List ℕ} {x : ℕ} → Pass G line most i j σ xs τ
    → (k : Kept) → Comes G line most τ x i j k → Sets τ υ x i j k → Pass G line most i j σ (xs ++ (x ∷ [])) υ
pass_on through k c s = one k c s through
pass_on (one l d t p) k c s = one l d t (pass_on p k c s)

-- a number more put
pub place-on : (cost : ℕ → ℕ) (b : List ℕ) (o : ℕ) (es : List ℕ) (e : ℕ)
    → place cost b o (es ++ (e ∷ [])) ≡ set (place cost b o es) (place_after cost o es) e
unfolding place place_after
place-on cost b o [] e = refl
place-on cost b o (d ∷ es) e = place-on cost (set b o d) (o + cost d) es e

pub place_after-on : (cost : ℕ → ℕ) (o : ℕ) (es : List ℕ) (e : ℕ) → place_after cost o (es ++ (e ∷ [])) ≡ place_after cost o es + cost e
unfolding place_after
place_after-on cost o [] e = refl
place_after-on cost o (d ∷ es) e = place_after-on cost (o + cost d) es e

-- a step more
pub steps_on : (cost rule : ℕ → ℕ) (kids : ℕ → List ℕ) (n o : ℕ) (b : List ℕ)
    → steps cost rule kids (suc n) o b ≡ step cost rule kids (o + n) (steps cost rule kids n o b)
unfolding steps
steps_on cost rule kids zero o b = ap (λ p. step cost rule kids p b) (sym (add-zero o))
steps_on cost rule kids (suc n) o b =
    let e : suc o + n ≡ o + suc n = omega arith in
    steps_on cost rule kids n (suc o) (step cost rule kids o b)
    ∙ ap (λ p. step cost rule kids p (steps cost rule kids n (suc o) (step cost rule kids o b))) e
