-- Calls on lent numbers, and sequences of them, as their contracts have them and nothing else. Assumes nothing.
use Rattle.std.specs.Prelude.{◌≡◌, Result, List, [], ℕ}
use Rattle.symbols.specs.Answer.{DONE, number_of, answer_of_parse, links_with}
use Rattle.symbols.specs.declared.refusal.Refusal.{Refusal}
use Rattle.symbols.specs.declared.verdict.Verdict.{Verdict}
use Rattle.theory.specs.Calls as calls
use Rattle.theory.specs.Made.{Call, Rule, left}
use Rattle.theory.specs.Made.Call.{new as new-call, add as add-call, delete as delete-call}
use Rattle.theory.specs.Made.Call.{collect as collect-call, restart as restart-call, parse as parse-Call}
use Rattle.table.specs.Layout.{Mem}
use Rattle.table.specs.Becomes.{Promised}
use Rattle.generator.specs.Calls.{NewPromised}
use Rattle.recogniser.specs.Parse.{Parses}

-- The call c on the lent numbers m answers a, with the number k (a rule's, or how many links; 0 where there is none), and leaves n
pub data Called : Call → Mem → Mem → ℕ → ℕ → Type 0 where
  new : {m n : Mem} {sets places a k : ℕ} → NewPromised m n sets places a → k ≡ 0 → Called (new-call sets places) m n a k
  add : {m n : Mem} {x a k : ℕ} {w : List ℕ} → Promised (λ t. calls.add t x w) m n a k → Called (add-call x w) m n a k
  delete : {m n : Mem} {x a k : ℕ} {w : List ℕ} → Promised (λ t. calls.delete t x w) m n a k → Called (delete-call x w) m n a k
  collect : {m n : Mem} {a k : ℕ} → Promised calls.collect m n a k → Called collect-call m n a k
  restart : {m n : Mem} {a k : ℕ} → Promised calls.restart m n a k → Called restart-call m n a k
  parse : {m n : Mem} {pool a k : ℕ} {line b c : List ℕ} {v : Result Verdict Refusal}
      → Parses pool line m n b c v → number_of (answer_of_parse v) ≡ a → links_with v ≡ k → Called (parse-Call pool line) m n a k

-- The lent numbers m after an accepted New, on any numbers, and any calls since, with any arguments, refused ones among them; R are
-- the rules that the accepted additions and withdrawals since New have left
pub data Run : Mem → List Rule → Type 0 where
  begun : {m n : Mem} (sets places : ℕ) → NewPromised m n sets places DONE → Run n []
  after : {m n : Mem} {R R' : List Rule} {c : Call} {a k : ℕ} → Run m R → Called c m n a k → left c a R ≡ R' → Run n R'
