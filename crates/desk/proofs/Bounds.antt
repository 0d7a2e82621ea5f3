-- What Add, Delete and Parse answer beside their answer has four digits at most: a rule number is at most 128, a number of links at
-- most 4,096. Assumes nothing.
use mathlib.Core.Bool.{Bool}
use mathlib.Core.Path.{◌≡◌, subst}
use mathlib.Core.Logic.{⊎_elim}
use mathlib.Core.List.{List}
use Prim.Native.Nat.{ℕ, ◌≤◌, zero-le}
use native.Mathlib.Omega.{arith}
use lib.Dec.{eqb, ltb, leb}
use lib.ListN.{length}
use Rattle.laws.specs.Lists.{up_from}
use Rattle.laws.proofs.Choice.{when-cases}
use Rattle.laws.proofs.Lists.{first_in, in_up}
use Rattle.symbols.specs.Answer.{links_with}
use Rattle.symbols.specs.Symbol.{rule_answer}
use Rattle.theory.specs.Table.{CURRENT, WITHDRAWN, RulePlace, Table, rule_at}
use Rattle.theory.specs.Expansion.{collected}
use Rattle.theory.specs.Form.{in_form}
use Rattle.theory.specs.Parse.{Link, Outcome, outcome}
use Rattle.theory.specs.Steps.{Steps}
use Rattle.theory.specs.Steps.Steps.{no_links, no_sets, expands, accepts, rejects, stuck, shift_full, shifts}
use Rattle.theory.specs.Calls.{add, delete, parse, is_there, is_full, is_rule, is_free, lowest_rule}
use Rattle.theory.proofs.Checks.{Parsed, parsed}
use Rattle.theory.proofs.Checks.Parsed.{bad_table, bad_pool, long_line, bad_token, read}
use Rattle.theory.proofs.Steps.{parse-steps}
use Rattle.table.specs.Layout.{Mem, view}
use Rattle.table.specs.Laid.{Formed}
use Rattle.table.specs.Becomes.{Promised}
use Rattle.form.proofs.Formed.{formed_dec}
use Rattle.table.proofs.Becoming.{rules-seen}
use Rattle.generator.proofs.Promises.{collected-rules}
use Rattle.links.specs.Records.{numbers_for}
use Rattle.std.specs.Prelude.{Result}
use Rattle.symbols.specs.declared.refusal.Refusal.{Refusal}
use Rattle.symbols.specs.declared.verdict.Verdict.{Verdict}
use Rattle.recogniser.specs.Parse.{lent_parse, Parses}

-- ---- rule numbers

lowest-small : (f : RulePlace → Bool) (rs : List RulePlace) → lowest_rule f rs ≤ length rs
lowest-small f rs =
    ⊎_elim (λ h. let k = (in_up 0 (length rs)).0 h.0 in omega arith) (λ h. let e = h.0 in omega arith)
    (first_in (λ r. f (rule_at rs r)) (length rs) (up_from 0 (length rs)))

module _ (t : Table) (x : ℕ) (w : List ℕ) where
  record Small (o : Outcome) : Type 0 where
    small : o.number ≤ length t.rules

  none : {a : ℕ} {u : Table} → Small (outcome a 0 u)
  none = record { small = zero-le }

  lowest : (f : RulePlace → Bool) {u : Table} → Small (outcome 0 (lowest_rule f t.rules) u)
  lowest f = record { small = lowest-small f t.rules }

  later : {u : Table} → Small (outcome 0 (lowest_rule is_free (collected t).rules) u)
  later = record { small = omega (arith, lowest-small is_free (collected t).rules, collected-rules t) }

  delete-number : (delete t x w).number ≤ length t.rules
  delete-number =
      (when-cases Small (in_form t)
      (λ _. when-cases Small (eqb (rule_answer x w) 0) (λ _. when-cases Small (is_there t x w) (λ _. lowest (is_rule CURRENT x w)) (λ _. none)) (λ _. none))
      (λ _. none)).small

  add-number : (add t x w).number ≤ length t.rules
  add-number =
      (when-cases Small (in_form t)
      (λ _. when-cases Small (eqb (rule_answer x w) 0)
      (λ _. when-cases Small (is_there t x w) (λ _. none)
      (λ _. when-cases Small (is_full t) (λ _. none)
      (λ _. when-cases Small (ltb (lowest_rule (is_rule WITHDRAWN x w) t.rules) (length t.rules)) (λ _. lowest (is_rule WITHDRAWN x w))
      (λ _. when-cases Small (ltb (lowest_rule is_free t.rules) (length t.rules)) (λ _. lowest is_free) (λ _. later)))))
      (λ _. none))
      (λ _. none)).small

-- a number that a call on a table promises, where the model's is at most 4,096
promised-small : {call : Table → Outcome} {m n : Mem} {a k : ℕ} → Promised call m n a k → (Formed m → (call (view m)).number ≤ 4096) → k ≤ 9999
promised-small {m = m} p few = ⊎_elim (λ f. omega (arith, p.number f, few f)) (λ g. omega (arith, (p.no_table g).1)) (formed_dec m)

module _ (x : ℕ) (w : List ℕ) {m n : Mem} {a k : ℕ} where
  pub add_digits : Promised (λ t. add t x w) m n a k → k ≤ 9999
  add_digits p = promised-small p (λ f. omega (arith, add-number (view m) x w, rules-seen m, f.laid.sized.few_rules))

  pub delete_digits : Promised (λ t. delete t x w) m n a k → k ≤ 9999
  delete_digits p = promised-small p (λ f. omega (arith, delete-number (view m) x w, rules-seen m, f.laid.sized.few_rules))

-- ---- numbers of links

number_of_lem : {o o' : Outcome} {k : ℕ} → o ≡ o' → o.number ≤ k → o'.number ≤ k
number_of_lem {o} {o'} {k} e l = subst (λ o. o.number ≤ k) e l

steps-number : {pool : ℕ} {t : Table} {p : ℕ} {ls : List Link} {line : List ℕ} {o : Outcome} → Steps pool t p ls line o → o.number ≤ pool
steps-number (no_links s h e) = number_of_lem e zero-le
steps-number (no_sets s h l f e) = number_of_lem e zero-le
steps-number (expands s h l f r) = steps-number r
steps-number (accepts r u a e) = number_of_lem e r.in_pool
steps-number (rejects r u e) = number_of_lem e r.in_pool
steps-number (stuck r u e) = number_of_lem e r.in_pool
steps-number (shift_full r s h l e) = number_of_lem e zero-le
steps-number (shifts r s h l q) = steps-number q

parse-number : (t : Table) (pool : ℕ) (line : List ℕ) → (parse t pool line).number ≤ 4096
parse-number t pool line = go (parsed t pool line)
  where
    go : {o : Outcome} → Parsed t pool line o → o.number ≤ 4096
    go (bad_table f) = zero-le
    go (bad_pool f h) = zero-le
    go (long_line f h k) = zero-le
    go (bad_token f h k d) = zero-le
    go (read f h k d) = let l = steps-number (parse-steps pool t line f) in omega arith

lent_number : (b : List ℕ) (pool : ℕ) (line : List ℕ) (t : Table) → (lent_parse b pool line t).number ≤ 4096
lent_number b pool line t =
    when-cases (λ (o : Outcome). o.number ≤ 4096) (leb (numbers_for pool) (length b)) (λ _. parse-number t pool line)
    (λ _. when-cases (λ (o : Outcome). o.number ≤ 4096) (in_form t) (λ _. zero-le) (λ _. zero-le))

pub parse_digits : {pool : ℕ} {line : List ℕ} {m n : Mem} {b c : List ℕ} {v : Result Verdict Refusal} → Parses pool line m n b c v → links_with v ≤ 9999
parse_digits {pool} {line} {m} {b = b} p = promised-small p.promised (λ f. lent_number b pool line (view m))
