-- Demands 1 to 3 of the real calls, on any lent numbers (`Called`) and after any sequence of real calls (`Run`). `view m` is the table
-- that the lent numbers m hold, R the rules that the accepted additions and withdrawals have left. Assumes nothing.
use mathlib.Core.Bool.{Bool, false}
use mathlib.Core.Path.{◌≡◌}
use mathlib.Core.Logic.{◌↔◌, ◌⊎◌}
use mathlib.Core.List.{List, [], Memᴰ as In}
use Prim.Native.Nat.{ℕ, ◌+◌, ◌≤◌, ◌<◌}
use lib.ListN.{length}
use Rattle.std.specs.Prelude.{Result}
use Rattle.symbols.specs.Symbol.{rule_answer}
use Rattle.symbols.specs.Answer.{BAD_TABLE, DONE, BAD_POOL, THERE, NOT_THERE, NO_RULES, NO_SETS, number_of, answer_of_parse, links_with}
use Rattle.symbols.specs.declared.refusal.Refusal.{Refusal}
use Rattle.symbols.specs.declared.verdict.Verdict.{Verdict}
use Rattle.theory.specs.Items.{Expanded, Generated}
use Rattle.theory.specs.Table.{EXPANDED, Table, free_set, set_at, grammar, automaton, Reach}
use Rattle.theory.specs.Parse.{Outcome, outcome}
use Rattle.theory.specs.Steps.{Steps}
use Rattle.theory.specs.Size.{Size}
use Rattle.theory.specs.Room.{Lacks, Many, NoSets}
use Rattle.theory.specs.Calls as calls
use Rattle.theory.specs.Changes.{CollectsFirst, ExactChange}
use Rattle.theory.specs.Answers.{answers_of, LeavesAll, Fits, IsVerdict, Decides}
use Rattle.theory.specs.Made.{Call, Rule, rule, CurrentRule, grammar_of}
use Rattle.theory.proofs.Demand2 as demand2
use Rattle.theory.proofs.Demand3 as demand3
use Rattle.table.specs.Layout.{Mem, sets_in, rules_in, view}
use Rattle.table.specs.Laid.{Formed}
use Rattle.table.specs.Becomes.{Promised}
use Rattle.table.proofs.OneOutcome.{SameLengths}
use Rattle.form.proofs.OneOutcome as form
use Rattle.expansion.specs.Expansion.{Expandable, Expands}
use Rattle.generator.specs.Calls.{NewPromised}
use Rattle.generator.proofs.OneOutcome as generator
use Rattle.links.specs.Records.{numbers_for}
use Rattle.recogniser.specs.Parse.{Parses}
use Rattle.recogniser.proofs.OneOutcome as recogniser
use Rattle.script.specs.Command.{Means}
use Rattle.script.specs.Command.Meaning.{parse}
use Rattle.replies.specs.Printed.{answer_line}
use Rattle.desk.specs.Obeys.{State}
use Rattle.desk.specs.Script.{Script, LineOf, blank}
use Rattle.demands.specs.Run.{Called, Run}
use Rattle.demands.specs.Scripts.{AtDesk, PrintsVerdict}
use Rattle.demands.specs.Numbers.{SameNumbers}
use Rattle.demands.proofs.Made.{run_holds, of_parse, of_verdict, decides, of_change}
use Rattle.demands.proofs.Refused as refused
use Rattle.demands.proofs.Checks as checks
use Rattle.demands.proofs.FormKept as kept
use Rattle.demands.proofs.Room as room
use Rattle.demands.proofs.Spared as spared
use Rattle.demands.proofs.Scripts as scripts

-- ---- Demand 1: every call ends with an answer on any numbers and arguments (no public call has a `requires`), each refusal exactly
-- when 01 says and with what 01 says (`Promised`); no second answer and no second list of numbers fits
pub new-once : {m n n' : Mem} {s r a a' : ℕ} → NewPromised m n s r a → NewPromised m n' s r a' → SameLengths n n' → (n ≡ n') × (a ≡ a')
new-once = generator.one-outcome

pub call-once : {call : Table → Outcome} {m n n' : Mem} {a a' k k' : ℕ} → Promised call m n a k → Promised call m n' a' k'
    → SameLengths n n' → (n ≡ n') × (a ≡ a') × (k ≡ k')
call-once = form.one-outcome

pub parse-once : {pool : ℕ} {line b c c' : List ℕ} {m n n' : Mem} {v v' : Result Verdict Refusal} → Parses pool line m n b c v
    → Parses pool line m n' b c' v' → SameLengths n n' → length c ≡ length c' → (n ≡ n') × (c ≡ c') × (v ≡ v')
parse-once = recogniser.one-outcome

-- the answer is one of the call's own; a refusal answers the number 0, and below NO-SETS it leaves every lent number
module _ {c : Call} {m n : Mem} {a k : ℕ} (p : Called c m n a k) where
  pub one_of_its_answers : In a (answers_of c)
  one_of_its_answers = refused.one_of_its_answers p

  pub refusal-number : BAD_POOL ≤ a → k ≡ 0
  refusal-number = refused.refusal-number p

  pub refusal-leaves-all : SameLengths n m → LeavesAll a → n ≡ m
  refusal-leaves-all = refused.refusal-leaves-all p

-- .. of Parse every number of the link buffer too
pub refusal-leaves-links : {pool : ℕ} {line b c : List ℕ} {m n : Mem} {v : Result Verdict Refusal} → Parses pool line m n b c v
    → LeavesAll (number_of (answer_of_parse v)) → c ≡ b
refusal-leaves-links = refused.refusal-leaves-links

-- after any sequence THERE, NOT-THERE and NO-RULES go by the rules that are left (the other checks' refusals: `Checks`)
module _ {m n : Mem} {R : List Rule} (r : Run m R) (x : ℕ) (w : List ℕ) (passed : rule_answer x w ≡ DONE) {a k : ℕ} where
  pub there-exactly : Promised (λ t. calls.add t x w) m n a k → (a ≡ THERE) ↔ In (rule x w) R
  there-exactly = checks.there-exactly r x w passed

  pub not_there-exactly : Promised (λ t. calls.delete t x w) m n a k → (a ≡ NOT_THERE) ↔ (In (rule x w) R → ⊥)
  not_there-exactly = checks.not_there-exactly r x w passed

  pub no_rules-exactly : Promised (λ t. calls.add t x w) m n a k
      → (a ≡ NO_RULES) ↔ ((In (rule x w) R → ⊥) × (length R ≡ rules_in m.rules))
  no_rules-exactly = checks.no_rules-exactly r x w passed

-- New, Collect, Restart and Parse keep the form of every table in form, made or not
pub new-keeps-form : {m n : Mem} {s r a : ℕ} → NewPromised m n s r a → Formed m → Formed n
new-keeps-form = kept.new-keeps-form

pub collect-keeps-form : {m n : Mem} {a k : ℕ} → Promised calls.collect m n a k → Formed m → Formed n
collect-keeps-form = kept.collect-keeps-form

pub restart-keeps-form : {m n : Mem} {a k : ℕ} → Promised calls.restart m n a k → Formed m → Formed n
restart-keeps-form = kept.restart-keeps-form

pub parse-keeps-form : {pool : ℕ} {line b c : List ℕ} {m n : Mem} {v : Result Verdict Refusal}
    → Parses pool line m n b c v → Formed m → Formed n
parse-keeps-form = kept.parse-keeps-form

-- an expansion "fails exactly when the sets reachable before it, and the kernels it leads to that none of them has, together outnumber
-- the pool"
pub room-exact : {m n : Mem} {u a b : ℕ} {done : Bool} → Expandable m u → Expands m n u done → Many (Reach (view m)) a
    → Many (Lacks (view m) u) b → (done ≡ false) ↔ (sets_in m.rules < a + b)
room-exact = room.room-exact

-- ---- Demand 2: Parse after any sequence
module _ {m n : Mem} {R : List Rule} (r : Run m R) {pool : ℕ} {line b c : List ℕ} {v : Result Verdict Refusal}
    (p : Parses pool line m n b c v) where
  abbrev answer : ℕ
  answer = number_of (answer_of_parse v)

  -- a verdict is to accept exactly if START derives the line by the table's current rules, equally by the rules that the history left
  pub verdict : Decides (grammar (view m).rules) line answer
  verdict = decides r p (λ h. demand2.verdict h pool line)

  pub verdict-by_history : Decides (grammar_of R) line answer
  verdict-by_history = decides r p (λ h. demand2.verdict-by_history h pool line)

  -- the number is then the size of the graph of links
  pub number_of-links : IsVerdict answer → Size (view n) line (links_with v)
  number_of-links = of_verdict r p (λ o. Size o.table line o.number) (λ h a. (demand2.number_of-links h pool line a).0)

  -- NO-SETS leaves a set in reach unexpanded, for whose expansion there is no room
  pub no_sets : answer ≡ NO_SETS → NoSets (view n)
  no_sets = room.no_sets r p

  -- within the limits, over a buffer with room for its pool, answer, number and table come exactly when 01's steps give them
  pub exactly-when : Fits pool line → numbers_for pool ≤ length b → (o : Outcome)
      → (outcome answer (links_with v) (view n) ≡ o) ↔ Steps pool (view m) 0 [] line o
  exactly-when fits room o =
      of_parse r p room (λ q. (q ≡ o) ↔ Steps pool (view m) 0 [] line o) (λ h. demand2.exactly-when h pool line fits o)

-- ---- Demand 3: of the table after any sequence, which is in form, so that no call on it answers BAD-TABLE

module _ {m : Mem} {R : List Rule} (r : Run m R) where
  pub formed : Formed m
  formed = (run_holds r).formed

  pub rules-left : (q : Rule) → In q R ↔ CurrentRule (view m) q
  rules-left = demand3.rules-left (run_holds r).made

  -- every expanded set, reachable or left over, is precisely the fresh expansion of its kernel
  pub fresh : (s : ℕ) → (set_at (view m).sets s).state ≡ EXPANDED → Expanded (grammar (view m).rules) (automaton (view m)) s
  fresh = demand3.fresh (run_holds r).made

  pub generated : {s : ℕ} → Reach (view m) s → Generated (grammar (view m).rules) ((automaton (view m)).Kernel s)
  generated = demand3.generated (run_holds r).made

  -- an accepted addition or withdrawal removes exactly the expansions that it changes, apart from sets that an addition had to free
  -- first
  module _ {n : Mem} {k : ℕ} (x : ℕ) (w : List ℕ) where
    pub add-exact : Promised (λ t. calls.add t x w) m n DONE k → (s : ℕ) → (CollectsFirst (view m) x w → Reach (view m) s)
        → ExactChange (view m) (view n) x s
    add-exact p = of_change r p (λ t. (s : ℕ) → (CollectsFirst (view m) x w → Reach (view m) s) → ExactChange (view m) t x s)
        (λ h. demand3.add-exact h x w)

    pub add_frees : Promised (λ t. calls.add t x w) m n DONE k → CollectsFirst (view m) x w → (s : ℕ) → (Reach (view m) s → ⊥)
        → set_at (view n).sets s ≡ free_set
    add_frees p = of_change r p (λ t. CollectsFirst (view m) x w → (s : ℕ) → (Reach (view m) s → ⊥) → set_at t.sets s ≡ free_set)
        (λ h. demand3.add_frees h x w)

    pub delete-exact : Promised (λ t. calls.delete t x w) m n DONE k → (s : ℕ) → ExactChange (view m) (view n) x s
    delete-exact p = of_change r p (λ t. (s : ℕ) → ExactChange (view m) t x s) (λ h. demand3.delete-exact h x w)

    -- and a set that stays as it was does so number for number
    pub add-numbers : Promised (λ t. calls.add t x w) m n DONE k → (s : ℕ) → s < sets_in m.rules
        → set_at (view n).sets s ≡ set_at (view m).sets s → SameNumbers m n s
    add-numbers = spared.add-numbers r x w

    pub delete-numbers : Promised (λ t. calls.delete t x w) m n DONE k → (s : ℕ) → s < sets_in m.rules
        → set_at (view n).sets s ≡ set_at (view m).sets s → SameNumbers m n s
    delete-numbers = spared.delete-numbers r x w

-- ---- From the desk to the demands: what the program holds after any script is what a sequence of calls made (`Run`), once there was a
-- good N; so demand 2 speaks of every P line that a script prints, and demand 3 of the table after every line
pub script-run : {e : State} {script printed : List ℕ} → Script blank script e printed → AtDesk e
script-run = scripts.script-run

pub script-verdict : {d e : State} {script line text w : List ℕ} → LineOf blank script d line e text → Means line (parse w)
    → (text ≡ answer_line BAD_TABLE) ⊎ ((R : List Rule) × Run d.table R × PrintsVerdict R w text)
script-verdict = scripts.script-verdict
