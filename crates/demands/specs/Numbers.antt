-- When a set has the same lent numbers before and after a call. Assumes nothing.
use Rattle.std.specs.Prelude.{◌≡◌, ℕ, ◌+◌, ◌*◌, ◌<◌, get_or}
use Rattle.table.specs.Layout.{Mem, cell}

-- the 128 cells of set s (its mark and its targets) and its 18 words (its kernel and its reductions)
pub record SameNumbers (m n : Mem) (s : ℕ) : Type 0 where
  pub cells : (k : ℕ) → k < 128 → cell n.sets s k ≡ cell m.sets s k
  pub words : (k : ℕ) → k < 18 → get_or n.sets.words (s * 18 + k) 0 ≡ get_or m.sets.words (s * 18 + k) 0
