-- How many sets are in use. Assumes nothing.
use Rattle.std.specs.Prelude.{◌≡◌, List, ℕ, ◌*◌, ◌≤◌, length}
use Rattle.theory.specs.Table.{in_use}
use Rattle.table.specs.Layout.{sets_in, mem, view}

-- r sets are in use in every table with these rules and cells, if the slices are long enough to hold one
pub record CountsUse (rules cells : List ℕ) (r : ℕ) : Type 0 where
  pub few : r ≤ 9999
  pub exact : (words : List ℕ) → 2 ≤ length rules → sets_in rules * 128 ≤ length cells → r ≡ in_use (view (mem rules cells words))
