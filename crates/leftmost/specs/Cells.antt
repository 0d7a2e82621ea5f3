-- Cell after cell, a cell being a start and an end: ends ascending, within an end starts descending. In a cell the spans come to their
-- best offers in rounds, in any order. Assumes nothing.
use Rattle.std.specs.Prelude.{◌≡◌, ◌↔◌, ◌⊎◌, ℕ, zero, suc, ◌≤◌, ◌<◌, length}
use mathlib.Core.List.{List, [], ◌∷◌, ◌++◌, Memᴰ as In}
use Rattle.theory.specs.Derivation.{Grammar}
use Rattle.leftmost.specs.Within.{Spans, Spells, Best}
use Rattle.leftmost.specs.Kept.{Kept, Store, Sets, Sound}
use Rattle.leftmost.specs.Comes.{Comes}

-- ---- what is right

-- the list qs of the symbols ys from i to j, cut where each of them ends, at the places ms: every part is the best of its symbol
pub data Cut (G : Grammar) (line : List ℕ) (S : Spans) : List ℕ → ℕ → List ℕ → ℕ → List ℕ → Type 0 where
  whole : {i : ℕ} → Cut G line S [] i [] i []
  part : {y i m j : ℕ} {ys ms q ps qs : List ℕ} → Best G line S (y ∷ []) i m q → Cut G line S ys m ms j ps → q ++ ps ≡ qs
      → Cut G line S (y ∷ ys) i (m ∷ ms) j qs

-- what is kept tells the first of the fewest: its length, its first rule, and where that rule's right places end
pub record Told (G : Grammar) (line : List ℕ) (S : Spans) (most x i j : ℕ) (k : Kept) : Type 0 where
  pub rest : List ℕ
  pub best : Best G line S (x ∷ []) i j (k.rule ∷ rest)
  pub cost : k.cost ≡ suc (length rest)
  pub fits : suc (length rest) ≤ most
  pub cut : Cut G line S (G.right k.rule) i k.ends j rest

-- it is told, or no derivation has fewer than n applications
pub data Right (G : Grammar) (line : List ℕ) (S : Spans) (most n x i j : ℕ) (k : Kept) : Type 0 where
  told : Told G line S most x i j k → Right G line S most n x i j k
  void : ((qs : List ℕ) → Spells G line S (x ∷ []) i j qs → n ≤ length qs) → Right G line S most n x i j k

-- ---- the rounds of a cell

-- the symbols xs are those of the cell's spans, in any order
abbrev pub Cell : Spans → ℕ → ℕ → List ℕ → Type 0
Cell S i j xs = (x : ℕ) → In x xs ↔ S x i j

-- the spans of the symbols xs, one after the other, set to what they come to
pub data Pass (G : Grammar) (line : List ℕ) (most i j : ℕ) : Store → List ℕ → Store → Type 0 where
  through : {σ : Store} → Pass G line most i j σ [] σ
  one : {σ τ υ : Store} {x : ℕ} {xs : List ℕ} (k : Kept) → Comes G line most σ x i j k → Sets σ τ x i j k → Pass G line most i j τ xs υ
      → Pass G line most i j σ (x ∷ xs) υ

-- so many rounds
pub data Rounds (G : Grammar) (line : List ℕ) (most i j : ℕ) (xs : List ℕ) (σ : Store) : ℕ → Store → Type 0 where
  none : Rounds G line most i j xs σ zero σ
  more : {t : ℕ} {τ υ : Store} → Rounds G line most i j xs σ t τ → Pass G line most i j τ xs υ → Rounds G line most i j xs σ (suc t) υ

-- one round for a lone span; else up to one that changes nothing, or more rounds than the buffer has places
pub data Settled (G : Grammar) (line : List ℕ) (most i j : ℕ) : List ℕ → Store → Store → Type 0 where
  alone : {σ υ : Store} {x : ℕ} → Pass G line most i j σ (x ∷ []) υ → Settled G line most i j (x ∷ []) σ υ
  stable : {σ υ : Store} {xs : List ℕ} {t : ℕ} → Rounds G line most i j xs σ t υ → Pass G line most i j υ xs υ
      → Settled G line most i j xs σ υ
  enough : {σ υ : Store} {xs : List ℕ} → Rounds G line most i j xs σ (suc most) υ → Settled G line most i j xs σ υ

-- ---- the cells so far

-- the cell (s, m) comes no later than the cell (i, j)
abbrev pub Done : ℕ → ℕ → ℕ → ℕ → Type 0
Done i j s m = (m < j) ⊎ ((m ≡ j) × (i ≤ s))

-- the spans of the cells up to (i, j) are right: told where the fewest fits the buffer
pub record Until (G : Grammar) (line : List ℕ) (S : Spans) (most i j : ℕ) (σ : Store) : Type 0 where
  pub sound : Sound G line S most σ
  pub right : (x s m : ℕ) → S x s m → Done i j s m → Right G line S most (suc most) x s m (σ x s m)
