-- What the calls promise. Assumes nothing.
use Rattle.std.specs.Prelude.{◌≡◌, ℕ, ◌<◌}
use Rattle.symbols.specs.Answer.{DONE, BAD_POOL}
use Rattle.symbols.specs.Rule.{WellFormed}
use Rattle.symbols.specs.declared.rule.Rule.{Rule}
use Rattle.theory.specs.Parse.{Outcome}
use Rattle.theory.specs.Expansion.{collected}
use Rattle.theory.specs.Calls.{new_table, lowest_rule, is_free}
use Rattle.table.specs.Layout.{Mem, rules_in, view}
use Rattle.table.specs.Becomes.{Becomes}
use Rattle.changes.specs.Change.{Fits}

-- New answers a and leaves n. "BAD-POOL: New's sizes .. outside its range, or the slices lent for them too short", all untouched; it
-- asks nothing of the numbers that it is lent, and so never answers BAD-TABLE.
pub record NewPromised (m n : Mem) (sets places a : ℕ) : Type 0 where
  pub made : Fits m sets places → (a ≡ DONE) × Becomes m n (new_table sets places)
  pub bad_pool : (Fits m sets places → ⊥) → (a ≡ BAD_POOL) × (n ≡ m)

-- on a table in form a call answers a and the number k and leaves n, as the model's outcome has it
pub record Does (o : Outcome) (m n : Mem) (a k : ℕ) : Type 0 where
  pub answer : a ≡ o.answer
  pub number : k ≡ o.number
  pub table : Becomes m n o.table

-- collection leaves a number free for the rule x
pub record LaterFree (m : Mem) (x : Rule) : Type 0 where
  pub inside : lowest_rule is_free (collected (view m)).rules < rules_in m.rules
  pub rule : WellFormed x
