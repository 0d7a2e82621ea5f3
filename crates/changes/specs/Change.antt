-- What the changes of a lent table ask and promise. Assumes nothing.
use Rattle.std.specs.Prelude.{ℕ, ◌+◌, ◌*◌, ◌≤◌, ◌<◌, T, length, set}
use Rattle.symbols.specs.Rule.{WellFormed, right_side}
use Rattle.symbols.specs.declared.rule.Rule.{Rule}
use Rattle.theory.specs.Table.{RulePlace, Table, unexpanded, set_at}
use Rattle.theory.specs.Calls.{pools_in_range}
use Rattle.table.specs.Layout.{Mem, rules_in}
use Rattle.table.specs.Laid.{Laid}

-- the rule x as a rule place, current or withdrawn
abbrev pub place_of : ℕ → Rule → RulePlace
place_of state x = record { state = state; left = x.left.0; right = right_side x }

-- rule x may be put at number r
pub record MayPut (m : Mem) (r state : ℕ) (x : Rule) : Type 0 where
  pub laid : Laid m
  pub inside : r < rules_in m.rules
  pub not_free : 1 ≤ state
  pub in_range : state ≤ 2
  pub rule : WellFormed x

-- "set 0 becomes unexpanded"
abbrev pub start_unexpanded : Table → Table
start_unexpanded t = record { rules = t.rules; sets = set t.sets 0 (unexpanded (set_at t.sets 0).kernel) }

-- the sizes are in range and the slices are as long as they need
pub record Fits (m : Mem) (sets places : ℕ) : Type 0 where
  pub in_range : T (pools_in_range sets places)
  pub rules : 2 + places * 10 ≤ length m.rules
  pub cells : sets * 128 ≤ length m.sets.cells
  pub words : sets * 18 ≤ length m.sets.words
