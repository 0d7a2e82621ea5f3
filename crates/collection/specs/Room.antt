-- What the sets' marks say of the room in a table. Assumes nothing.
use Rattle.std.specs.Prelude.{◌≡◌, List, ℕ}
use Rattle.theory.specs.Table.{Table}
use Rattle.table.specs.Layout.{sets_in, mem, view}

-- r is f of whatever table has S sets with these cells
pub record InTables (S : ℕ) (cells : List ℕ) (f : Table → ℕ) (r : ℕ) : Type 0 where
  pub exact : (rs ws : List ℕ) → sets_in rs ≡ S → r ≡ f (view (mem rs cells ws))
