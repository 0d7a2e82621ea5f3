-- What a caller that reads sizes and tables is told, whatever it asks. Assumes nothing.
use Rattle.std.specs.Prelude.{◌≡◌, List, ℕ, ◌+◌, ◌*◌, ◌≤◌, ◌<◌, length}
use Rattle.kernels.specs.Kernel.{has, Least}
use Rattle.theory.specs.Table.{in_use}
use Rattle.table.specs.Layout.{sets_in}
use Rattle.collection.specs.Room.{InTables}

-- r is the value where the place that is asked for is there, else the other one
pub record Told (There : Type 0) (r value other : ℕ) : Type 0 where
  pub there : There → r ≡ value
  pub not_there : (There → ⊥) → r ≡ other

-- the numbers of place p, of n numbers each, stand in the list
abbrev pub Holds : List ℕ → ℕ → ℕ → Type 0
Holds xs p n = p * n + n ≤ length xs

-- the slices hold the marks of all sets
abbrev pub HoldsMarks : List ℕ → List ℕ → Type 0
HoldsMarks rs cells = (2 ≤ length rs) × (sets_in rs * 128 ≤ length cells)

-- r is how many sets are in use, 0 where the slices are too short: set 0 of a table in form is always in use
pub record ToldInUse (rs cells : List ℕ) (r : ℕ) : Type 0 where
  pub there : HoldsMarks rs cells → InTables (sets_in rs) cells in_use r
  pub not_there : (HoldsMarks rs cells → ⊥) → r ≡ 0

-- r is the least bit not below `from` of the n words from `at` on, or n * 64 where there is none
pub record ToldBit (ws : List ℕ) (at n from r : ℕ) : Type 0 where
  pub bit : r < n * 64 → Least ws at n from r
  pub none : n * 64 ≤ r → (r ≡ n * 64) × ((j : ℕ) → from ≤ j → j < n * 64 → has ws at j ≡ 0)

-- r is such a bit of n words of set s, from its word k on, or n * 64 where the words don't hold the set
pub record ToldNext (ws : List ℕ) (s k n from r : ℕ) : Type 0 where
  pub there : Holds ws s 18 → ToldBit ws (s * 18 + k) n from r
  pub not_there : (Holds ws s 18 → ⊥) → r ≡ n * 64
