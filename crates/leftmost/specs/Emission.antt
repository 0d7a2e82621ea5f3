-- The list written out with no stack: the buffer holds, where each pending span's list will begin, the span's number. The number at hand
-- becomes the span's rule, and its children's numbers are put where their lists begin, a cost apart. Assumes nothing.
use Rattle.std.specs.Prelude.{◌≡◌, List, [], ◌∷◌, ℕ, zero, suc, ◌+◌, ◌≤◌, ◌<◌, length, get_or, set}
use Rattle.laws.specs.Choice.{when}
use Rattle.symbols.specs.Symbol.{terminal}
use Rattle.theory.specs.Derivation.{Grammar}
use Rattle.leftmost.specs.Within.{Spans}
use Rattle.leftmost.specs.Kept.{Store}

-- numbers put from place o on, each at its cost from the one before
unfoldable pub place : (ℕ → ℕ) → List ℕ → ℕ → List ℕ → List ℕ
place cost b o [] = b
place cost b o (e ∷ es) = place cost (set b o e) (o + cost e) es

-- the place after them
unfoldable pub place_after : (ℕ → ℕ) → ℕ → List ℕ → ℕ
place_after cost o [] = o
place_after cost o (e ∷ es) = place_after cost (o + cost e) es

-- of each span's number its cost, its rule, and the numbers of its children
module _ (cost rule : ℕ → ℕ) (kids : ℕ → List ℕ) where
  -- the number at place o becomes its rule
  unfoldable pub step : ℕ → List ℕ → List ℕ
  step o b = place cost (set b o (rule (get_or b o 0))) (suc o) (kids (get_or b o 0))

  -- n steps from place o on
  unfoldable pub steps : ℕ → ℕ → List ℕ → List ℕ
  steps zero o b = b
  steps (suc n) o b = steps n (suc o) (step o b)

-- the numbers of the non-terminals of ys, from i, ending at the places ms
unfoldable pub kids_of : (ℕ → ℕ → ℕ → ℕ) → List ℕ → ℕ → List ℕ → List ℕ
kids_of number [] i ms = []
kids_of number (y ∷ ys) i [] = []
kids_of number (y ∷ ys) i (m ∷ ms) = let rest = kids_of number ys m ms in when (terminal y) rest (number y i m ∷ rest)

-- a span's number has the span's cost, its rule and its children
pub record Numbered (G : Grammar) (σ : Store) (S : Spans) (number : ℕ → ℕ → ℕ → ℕ) (cost rule : ℕ → ℕ) (kids : ℕ → List ℕ) : Type 0 where
  pub its_cost : (x i j : ℕ) → S x i j → cost (number x i j) ≡ (σ x i j).cost
  pub its_rule : (x i j : ℕ) → S x i j → rule (number x i j) ≡ (σ x i j).rule
  pub its_kids : (x i j : ℕ) → S x i j → kids (number x i j) ≡ kids_of number (G.right (σ x i j).rule) i (σ x i j).ends

-- c is b with the list l from place o on
pub record Emitted (b c : List ℕ) (o : ℕ) (l : List ℕ) : Type 0 where
  pub before : (p : ℕ) → p < o → get_or c p 0 ≡ get_or b p 0
  pub after : (p : ℕ) → o + length l ≤ p → get_or c p 0 ≡ get_or b p 0
  pub here : (q : ℕ) → q < length l → get_or c (o + q) 0 ≡ get_or l q 0
  pub long : length c ≡ length b
