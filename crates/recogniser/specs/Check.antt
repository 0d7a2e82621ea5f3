-- Parse's checks: "Parse checks 11, then 10 (links), 18, 19." Assumes nothing.
use Rattle.std.specs.Prelude.{List, ℕ, ◌≤◌, ◌<◌, T, length, Result, Ok, Err}
use Rattle.symbols.specs.declared.refusal.Refusal.{Refusal as Reason}
use Rattle.symbols.specs.declared.refusal.Refusal.TheVariants.{BadPool, BadTable, LongLine, BadToken}
use Rattle.theory.specs.Calls.{all_tokens}
use Rattle.table.specs.Layout.{Mem}
use Rattle.table.specs.Laid.{Formed}
use Rattle.links.specs.Records.{numbers_for}
use Rattle.positions.specs.Reading.{Readable}

-- "BAD-POOL: .. Parse's link size outside its range, or the slices lent for them too short": it is neither, over so many numbers
abbrev pub PoolFits : (room pool : ℕ) → Type 0
PoolFits room pool = (pool ≤ 4096) × (numbers_for pool ≤ room)

-- why a parse is refused, over a link buffer of so many numbers
pub data Refusal (m : Mem) (room pool : ℕ) (line : List ℕ) : Reason → Type 0 where
  bad_table : (Formed m → ⊥) → Refusal m room pool line BadTable
  bad_pool : Formed m → (PoolFits room pool → ⊥) → Refusal m room pool line BadPool
  long_line : Formed m → PoolFits room pool → 255 < length line → Refusal m room pool line LongLine
  bad_token : Formed m → PoolFits room pool → length line ≤ 255 → (T (all_tokens line) → ⊥) → Refusal m room pool line BadToken

-- what the checks found
abbrev pub Checks : Mem → (room pool : ℕ) → List ℕ → Result (Unit {0}) Reason → Type 0
Checks m room pool line (Ok _) = Readable pool line m room
Checks m room pool line (Err a) = Refusal m room pool line a
