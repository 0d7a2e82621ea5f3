-- How far Parse's steps have come: the steps that go on (Steps.antt), from one place to a later one. A place is a table, a position,
-- the links at hand and the tokens to come. Assumes nothing.
use Rattle.std.specs.Prelude.{true, ◌≡◌, List, ◌∷◌, ℕ, suc, ◌≤◌, ◌<◌, length}
use Rattle.theory.specs.Table.{Table}
use Rattle.theory.specs.Expansion.{expand}
use Rattle.theory.specs.Parse.{Link}
use Rattle.theory.specs.Steps.{Saturated, Lowest, Ready, Shifted}

-- the steps from position p with the links ls and the tokens w to come lead to position p' with ls' and w'
pub data Reaches (pool : ℕ) : Table → ℕ → List Link → List ℕ → Table → ℕ → List Link → List ℕ → Type 0 where
  there : {t : Table} {p : ℕ} {ls : List Link} {w : List ℕ} → Reaches pool t p ls w t p ls w
  -- 2. "If a node here has an unexpanded set, expand the lowest-numbered one .. and go to 1."
  expands : {t t' : Table} {p p' : ℕ} {ls m ls' : List Link} {w w' : List ℕ} {u : ℕ}
      → Saturated t p ls m → length m ≤ pool → Lowest t p m u → (expand t u).done ≡ true
      → Reaches pool (expand t u).table p m w t' p' ls' w' → Reaches pool t p ls w t' p' ls' w'
  -- 3. "for each node here with a transition on the next token, link (next position, target) to it. .. Then the next position."
  shifts : {t t' : Table} {p p' x : ℕ} {ls m n ls' : List Link} {w w' : List ℕ}
      → Ready pool t p ls m → Shifted t p x m n → length m < length n → length n ≤ pool
      → Reaches pool t (suc p) n w t' p' ls' w' → Reaches pool t p ls (x ∷ w) t' p' ls' w'
