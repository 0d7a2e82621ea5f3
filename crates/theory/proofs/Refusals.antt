-- A refusal of any call on any table: below NO-SETS it leaves the table as it was, and its number is 0. Assumes nothing.
use mathlib.Core.Path.{◌≡◌, refl}
use mathlib.Core.Logic.{⊎_elim}
use Prim.Native.Nat.{ℕ, ◌≤◌}
use native.Mathlib.Omega.{arith}
use lib.Dec.{eqb, ltb}
use lib.ListN.{length}
use Rattle.laws.proofs.Choice.{when-cases}
use Rattle.symbols.specs.Symbol.{rule_answer}
use Rattle.symbols.specs.Answer.{DONE, BAD_POOL}
use Rattle.theory.specs.Table.{WITHDRAWN, Table}
use Rattle.theory.specs.Form.{in_form}
use Rattle.theory.specs.Parse.{Outcome}
use Rattle.theory.specs.Calls.{pools_in_range, is_rule, is_free, is_full, is_there, lowest_rule}
use Rattle.theory.specs.Made.{Call, called}
use Rattle.theory.specs.Made.Call.{new, add, delete, collect, restart, parse}
use Rattle.theory.specs.Answers.{LeavesAll}
use Rattle.theory.proofs.Checks.{Parsed, parsed}
use Rattle.theory.proofs.Checks.Parsed.{bad_table, bad_pool, long_line, bad_token, read}
use Rattle.theory.proofs.Parsing.{Answered, parsing-answers}
use Rattle.theory.proofs.Parsing.Answered.{verdict_given, no_room}

-- what a refusal leaves and answers
pub record Refusing (t : Table) (o : Outcome) : Type 0 where
  pub leaves : LeavesAll o.answer → o.table ≡ t
  pub number : BAD_POOL ≤ o.answer → o.number ≡ 0

-- a refused call leaves all; one that is done refuses nothing
leaving : {t : Table} (a : ℕ) → Refusing t (record { answer = a; number = 0; table = t })
leaving a = record { leaves = λ l. refl; number = λ h. refl }

doing : {t u : Table} (k : ℕ) → Refusing t (record { answer = DONE; number = k; table = u })
doing k = record { leaves = λ (h, l). absurd (omega arith); number = λ h. absurd (omega arith) }

pub refusing : (c : Call) (t : Table) → Refusing t (called c t)
refusing (new s r) t = when-cases (Refusing t) (pools_in_range s r) (λ e. doing 0) (λ e. leaving _)
refusing (add x w) t =
    when-cases (Refusing t) (in_form t)
    (λ e. when-cases (Refusing t) (eqb (rule_answer x w) DONE)
    (λ e. when-cases (Refusing t) (is_there t x w) (λ e. leaving _)
    (λ e. when-cases (Refusing t) (is_full t) (λ e. leaving _)
    (λ e. when-cases (Refusing t) (ltb (lowest_rule (is_rule WITHDRAWN x w) t.rules) (length t.rules)) (λ e. doing _)
    (λ e. when-cases (Refusing t) (ltb (lowest_rule is_free t.rules) (length t.rules)) (λ e. doing _) (λ e. doing _)))))
    (λ e. leaving _))
    (λ e. leaving _)
refusing (delete x w) t =
    when-cases (Refusing t) (in_form t)
    (λ e. when-cases (Refusing t) (eqb (rule_answer x w) DONE)
    (λ e. when-cases (Refusing t) (is_there t x w) (λ e. doing _) (λ e. leaving _))
    (λ e. leaving _))
    (λ e. leaving _)
refusing collect t = when-cases (Refusing t) (in_form t) (λ e. doing 0) (λ e. leaving _)
refusing restart t = when-cases (Refusing t) (in_form t) (λ e. doing 0) (λ e. leaving _)
refusing (parse pool line) t = go (parsed t pool line)
  where
    past : {o : Outcome} → Answered line o → Refusing t o
    past (verdict_given a z) = record {
      leaves = λ (h, l). absurd (⊎_elim (λ e. omega arith) (λ e. omega arith) a);
      number = λ h. absurd (⊎_elim (λ e. omega arith) (λ e. omega arith) a);
    }
    past (no_room a z) = record { leaves = λ (h, l). absurd (⊎_elim (λ e. omega arith) (λ e. omega arith) a); number = λ h. z }

    go : {o : Outcome} → Parsed t pool line o → Refusing t o
    go (bad_table f) = leaving _
    go (bad_pool f h) = leaving _
    go (long_line f h k) = leaving _
    go (bad_token f h k d) = leaving _
    go (read f h k d) = past (parsing-answers pool t line f)
