-- What an expansion asks of the lent numbers and promises of them. Assumes nothing.
use Rattle.std.specs.Prelude.{Bool, true, false, ◌≡◌, ℕ}
use Rattle.theory.specs.Table.{UNEXPANDED, set_at, Reach}
use Rattle.theory.specs.Expansion.{has_room, grown, expand}
use Rattle.table.specs.Layout.{Mem, view}
use Rattle.table.specs.Laid.{Formed}
use Rattle.table.specs.Becomes.{Becomes}

-- the numbers hold a table in form, in which set s is unexpanded
pub record Unexpanded (m : Mem) (s : ℕ) : Type 0 where
  pub formed : Formed m
  pub bare : (set_at (view m).sets s).state ≡ UNEXPANDED

-- .. and reached: collection leaves it
pub record Expandable (m : Mem) (s : ℕ) : Type 0 where
  pub is : Unexpanded m s
  pub reached : Reach (view m) s

-- the set is expanded where there is room, else nothing is touched
pub record Tried (m n : Mem) (s : ℕ) (r : Bool) : Type 0 where
  pub room : r ≡ has_room (view m) s
  pub grew : r ≡ true → Becomes m n (grown (view m) s).table
  pub stayed : r ≡ false → n ≡ m

-- "If an expansion needs more new sets than are free, collection comes first and the kernels are looked up again. If there are still
-- too few, the expansion isn't done.": the answer and every number afterwards are the model's
pub record Expands (m n : Mem) (s : ℕ) (r : Bool) : Type 0 where
  pub done : r ≡ (expand (view m) s).done
  pub table : Becomes m n (expand (view m) s).table
