-- Leftmost derivation by places of a fixed line, within some spans: a span is a symbol, where it begins and where it ends, and each rule
-- is applied to a symbol whose span is among them. On tables that no call made, a graph of links need not show every derivation; there
-- the list is the first within what it shows. Where every derivation of the line is within, the first within is `First`. Assumes nothing.
use Rattle.std.specs.Prelude.{◌≡◌, ◌⊎◌, List, [], ◌∷◌, ◌++◌, ℕ, suc, ◌≤◌, ◌<◌, T, length, get_or}
use Rattle.symbols.specs.Symbol.{START, terminal, nonterminal}
use Rattle.theory.specs.Derivation.{Grammar}
use Rattle.leftmost.specs.Leftmost.{Leftmost, Before}

-- spans, by symbol, start and end
abbrev pub Spans : Type 1
Spans = ℕ → ℕ → ℕ → Type 0

-- The symbols xs make the tokens from place i up to place j by the rules rs, in the order of a leftmost derivation: a token is passed; to
-- a symbol from i to m whose span is in S a current rule is applied, then the rules of its right side follow, then those of the rest
pub data Spells (G : Grammar) (line : List ℕ) (S : Spans) : List ℕ → ℕ → ℕ → List ℕ → Type 0 where
  stop : {i : ℕ} → Spells G line S [] i i []
  token : {x i j : ℕ} {xs rs : List ℕ} → T (terminal x) → i < length line → get_or line i 0 ≡ x → Spells G line S xs (suc i) j rs
      → Spells G line S (x ∷ xs) i j rs
  apply : {x i m j : ℕ} {xs ps qs rs : List ℕ} (r : ℕ) → T (G.current r) → G.left r ≡ x → S x i m
      → Spells G line S (G.right r) i m ps → Spells G line S xs m j qs → ps ++ qs ≡ rs → Spells G line S (x ∷ xs) i j (r ∷ rs)

-- the fewest for these symbols between these places, and the first among those
pub record Best (G : Grammar) (line : List ℕ) (S : Spans) (xs : List ℕ) (i j : ℕ) (rs : List ℕ) : Type 0 where
  pub spells : Spells G line S xs i j rs
  pub least : (qs : List ℕ) → Spells G line S xs i j qs → length rs ≤ length qs
  pub first : (qs : List ℕ) → Spells G line S xs i j qs → length qs ≡ length rs → (rs ≡ qs) ⊎ Before rs qs

-- of START over the whole line
abbrev pub FirstWithin : Grammar → List ℕ → Spans → List ℕ → Type 0
FirstWithin G line S rs = Best G line S (START ∷ []) 0 (length line) rs

-- every derivation of the line is within
abbrev pub Closed : Grammar → List ℕ → Spans → Type 0
Closed G line S = (rs : List ℕ) → Leftmost G (START ∷ []) rs line → Spells G line S (START ∷ []) 0 (length line) rs

-- the spans are of non-terminals and lie within the line
pub record OfLine (line : List ℕ) (S : Spans) : Type 0 where
  pub symbol : (x i j : ℕ) → S x i j → T (nonterminal x)
  pub ahead : (x i j : ℕ) → S x i j → i ≤ j
  pub low : (x i j : ℕ) → S x i j → j ≤ length line
