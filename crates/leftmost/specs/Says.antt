-- The list that a span says by what is kept, and the walk that tells which of two spans says the earlier one. Assumes nothing.
use Rattle.std.specs.Prelude.{◌≡◌, ◌≢◌, ◌⊎◌, List, [], ◌∷◌, ◌++◌, ℕ, zero, suc, ◌<◌, T, length, get_or}
use Rattle.symbols.specs.Symbol.{terminal}
use Rattle.theory.specs.Derivation.{Grammar}
use Rattle.leftmost.specs.Leftmost.{Before}
use Rattle.leftmost.specs.Kept.{Store}

-- the span's rule and then what its right places say; and what the symbols ys say from i, ending at the places ms
mutual
  pub data Says (G : Grammar) (line : List ℕ) (σ : Store) : ℕ → ℕ → ℕ → List ℕ → Type 0 where
    says : {x i j : ℕ} {qs rs : List ℕ} → (σ x i j).cost ≢ 0 → T (G.current (σ x i j).rule) → G.left (σ x i j).rule ≡ x
        → SaysAll G line σ (G.right (σ x i j).rule) i (σ x i j).ends j qs → (σ x i j).rule ∷ qs ≡ rs → Says G line σ x i j rs

  pub data SaysAll (G : Grammar) (line : List ℕ) (σ : Store) : List ℕ → ℕ → List ℕ → ℕ → List ℕ → Type 0 where
    end : {i : ℕ} → SaysAll G line σ [] i [] i []
    token : {y i j : ℕ} {ys ms qs : List ℕ} → T (terminal y) → i < length line → get_or line i 0 ≡ y
        → SaysAll G line σ ys (suc i) ms j qs → SaysAll G line σ (y ∷ ys) i (suc i ∷ ms) j qs
    span : {y i m j : ℕ} {ys ms q ps qs : List ℕ} → Says G line σ y i m q → SaysAll G line σ ys m ms j ps → q ++ ps ≡ qs
        → SaysAll G line σ (y ∷ ys) i (m ∷ ms) j qs

-- the lists said with the ends ms come before those said with ns
abbrev pub Ahead : Grammar → List ℕ → Store → List ℕ → ℕ → ℕ → List ℕ → List ℕ → Type 0
Ahead G line σ ys i j ms ns = (qs ps : List ℕ) → SaysAll G line σ ys i ms j qs → SaysAll G line σ ys i ns j ps → Before qs ps

-- the same ends, or ends with which the earlier list is said
abbrev pub Foremost : Grammar → List ℕ → Store → List ℕ → ℕ → ℕ → List ℕ → List ℕ → Type 0
Foremost G line σ ys i j ms ns = (ms ≡ ns) ⊎ Ahead G line σ ys i j ms ns

-- the first symbol that ends elsewhere: y, from s, ends at a and at b
pub data Other : List ℕ → ℕ → List ℕ → List ℕ → ℕ → ℕ → ℕ → ℕ → Type 0 where
  here : {y i m n : ℕ} {ys ms ns : List ℕ} → m ≢ n → Other (y ∷ ys) i (m ∷ ms) (n ∷ ns) y i m n
  further : {x y i m s a b : ℕ} {ys ms ns : List ℕ} → Other ys m ms ns y s a b → Other (x ∷ ys) i (m ∷ ms) (m ∷ ns) y s a b

-- where right place p begins, if the places end at ms
abbrev pub start_of : ℕ → List ℕ → ℕ → ℕ
start_of i ms zero = i
start_of i ms (suc p) = get_or ms p 0

-- The walk of `before`: of the spans of x from i to a and to b, the first says the earlier list. The rules decide; where they are the
-- same, the first right place that ends elsewhere does
pub data Precedes (G : Grammar) (σ : Store) : ℕ → ℕ → ℕ → ℕ → Type 0 where
  by_rule : {x i a b : ℕ} → (σ x i a).rule < (σ x i b).rule → Precedes G σ x i a b
  by_part : {x i a b y s c d : ℕ} → (σ x i a).rule ≡ (σ x i b).rule
      → Other (G.right (σ x i a).rule) i (σ x i a).ends (σ x i b).ends y s c d → Precedes G σ y s c d → Precedes G σ x i a b
