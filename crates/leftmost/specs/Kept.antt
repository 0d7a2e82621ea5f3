-- What is kept of each span: its cost, 0 for none yet, and its choice, a rule and where each of the rule's right places ends. The list
-- that a span says is never kept: it follows from the choices (Says). Assumes nothing.
use Rattle.std.specs.Prelude.{◌≡◌, ◌≢◌, ◌⊎◌, List, [], ◌∷◌, ℕ, zero, suc, ◌+◌, ◌≤◌, ◌<◌, T, length, get_or}
use Rattle.symbols.specs.Symbol.{terminal}
use Rattle.theory.specs.Derivation.{Grammar}
use Rattle.leftmost.specs.Within.{Spans}

pub record Kept : Type 0 where
  pub cost : ℕ
  pub rule : ℕ
  pub ends : List ℕ

-- by symbol, start and end
abbrev pub Store : Type 0
Store = ℕ → ℕ → ℕ → Kept

-- τ is σ with k at the span (x, i, j)
pub record Sets (σ τ : Store) (x i j : ℕ) (k : Kept) : Type 0 where
  pub at : τ x i j ≡ k
  pub each : (y s m : ℕ) → ((y ≡ x) × ((s ≡ i) × (m ≡ j))) ⊎ (τ y s m ≡ σ y s m)

-- the symbols ys from i, ending at the places ms, the last of them j, cost c together
pub data Total (line : List ℕ) (σ : Store) : List ℕ → ℕ → List ℕ → ℕ → ℕ → Type 0 where
  end : {i : ℕ} → Total line σ [] i [] i zero
  token : {y i j c : ℕ} {ys ms : List ℕ} → T (terminal y) → i < length line → get_or line i 0 ≡ y → Total line σ ys (suc i) ms j c
      → Total line σ (y ∷ ys) i (suc i ∷ ms) j c
  span : {y i m j c d : ℕ} {ys ms : List ℕ} → (σ y i m).cost ≢ 0 → Total line σ ys m ms j c → (σ y i m).cost + c ≡ d
      → Total line σ (y ∷ ys) i (m ∷ ms) j d

-- what a current rule offers to a span: its right places ending at ms, for c together, where that fits the buffer of length `most`
pub record Offer (G : Grammar) (line : List ℕ) (most : ℕ) (σ : Store) (x i j r : ℕ) (ms : List ℕ) (c : ℕ) : Type 0 where
  pub current : T (G.current r)
  pub left : G.left r ≡ x
  pub total : Total line σ (G.right r) i ms j c
  pub fits : suc c ≤ most

-- the choice kept of a span of S is an offer of what is kept now, at no more than the cost kept
pub record Backed (G : Grammar) (line : List ℕ) (S : Spans) (most : ℕ) (σ : Store) (x i j : ℕ) : Type 0 where
  pub within : S x i j
  pub sum : ℕ
  pub offer : Offer G line most σ x i j (σ x i j).rule (σ x i j).ends sum
  pub enough : suc sum ≤ (σ x i j).cost

-- whatever has a cost is backed
abbrev pub Sound : Grammar → List ℕ → Spans → ℕ → Store → Type 0
Sound G line S most σ = (x i j : ℕ) → (σ x i j).cost ≢ 0 → Backed G line S most σ x i j

-- nothing is kept of a token
abbrev pub NoTokens : Store → Type 0
NoTokens σ = (y i m : ℕ) → T (terminal y) → (σ y i m).cost ≢ 0 → ⊥
