-- Walks over a set of numbers that is kept as bits: h i is 1 where the set has i, else 0. Assumes nothing.
use Rattle.std.specs.Prelude.{ℕ, ◌+◌, eqb}
use Rattle.laws.specs.Choice.{when}
use Rattle.laws.specs.Loops.{up_to}

-- how many numbers below n the set has
unfoldable pub how_many : ℕ → (ℕ → ℕ) → ℕ
how_many n h = up_to n (λ i sum. sum + h i) 0

-- the step f taken at each number below n that the set has, in ascending order, from a on
unfoldable pub visit {ℓ} : {A : Type ℓ} → (ℕ → A → A) → (ℕ → ℕ) → ℕ → A → A
visit f h n a = up_to n (λ i x. when (eqb (h i) 1) (f i x) x) a
