-- What the reading promises, the part of a parse between its checks and the clearing. Assumes nothing.
use Rattle.std.specs.Prelude.{◌≡◌, Result, List, ℕ, take, drop}
use Rattle.table.specs.Layout.{Mem}
use Rattle.links.specs.Records.{numbers_for}
use Rattle.symbols.specs.declared.refusal.Refusal.{Refusal}
use Rattle.symbols.specs.declared.verdict.Verdict.{Verdict}
use Rattle.positions.specs.Reading.{Reads}

-- A line read over the pool's part of the link buffer, which is b before and c after: "numbers beyond it are never touched."
pub record ReadsOver (pool : ℕ) (line : List ℕ) (m n : Mem) (b c : List ℕ) (v : Result Verdict Refusal) : Type 0 where
  pub reads : Reads pool line m n (take (numbers_for pool) c) v
  pub beyond : drop (numbers_for pool) c ≡ drop (numbers_for pool) b
