-- What a call promises of the lent numbers. Assumes nothing.
use Rattle.std.specs.Prelude.{◌≡◌, ℕ, ◌+◌, ◌*◌, ◌≤◌, get_or}
use Rattle.symbols.specs.Answer.{BAD_TABLE}
use Rattle.theory.specs.Table.{Table}
use Rattle.theory.specs.Parse.{Outcome}
use Rattle.table.specs.Layout.{Mem, sets_in, rules_in, view}
use Rattle.table.specs.Laid.{Laid, Formed}

-- The numbers n after are laid out and hold the table t, and what lies beyond the pools is as it was in m: "Lent numbers beyond
-- what the pools need are not touched."
pub record Becomes (m n : Mem) (t : Table) : Type 0 where
  pub laid : Laid n
  pub seen : view n ≡ t
  pub rules : (k : ℕ) → 2 + rules_in n.rules * 10 ≤ k → get_or n.rules k 0 ≡ get_or m.rules k 0
  pub cells : (k : ℕ) → sets_in n.rules * 128 ≤ k → get_or n.sets.cells k 0 ≡ get_or m.sets.cells k 0
  pub words : (k : ℕ) → sets_in n.rules * 18 ≤ k → get_or n.sets.words k 0 ≡ get_or m.sets.words k 0

-- What a call on a lent table promises: it answers a and the number k and leaves n. Numbers that are laid out and hold a table in form
-- are that table, and the call is the model's on it. Others are none: "BAD-TABLE: not in form, or table slices shorter than its sizes
-- need", all untouched.
pub record Promised (call : Table → Outcome) (m n : Mem) (a k : ℕ) : Type 0 where
  pub answer : Formed m → a ≡ (call (view m)).answer
  pub number : Formed m → k ≡ (call (view m)).number
  pub table : Formed m → Becomes m n (call (view m)).table
  pub no_table : (Formed m → ⊥) → (a ≡ BAD_TABLE) × (k ≡ 0) × (n ≡ m)
