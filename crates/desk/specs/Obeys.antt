-- What a command does, in 01's words ("The program"): which call is made, what the numbers are afterwards, and what is printed.
-- Assumes nothing.
use Rattle.std.specs.Prelude.{Bool, true, false, ◌≡◌, ◌≢◌, List, ℕ, Result, leb}
use Rattle.laws.specs.Choice.{◌and◌}
use Rattle.symbols.specs.Answer.{DONE, BAD_POOL, BAD_TABLE, MALFORMED, number_of, answer_of_parse, links_with}
use Rattle.theory.specs.Table.{Table, in_use}
use Rattle.theory.specs.Parse.{Outcome}
use Rattle.theory.specs.Calls as calls
use Rattle.table.specs.Layout.{Mem, view}
use Rattle.table.specs.Laid.{Formed}
use Rattle.table.specs.Becomes.{Promised}
use Rattle.generator.specs.Calls.{NewPromised}
use Rattle.recogniser.specs.Parse.{Parses}
use Rattle.symbols.specs.declared.refusal.Refusal.{Refusal}
use Rattle.symbols.specs.declared.verdict.Verdict.{Verdict}
use Rattle.script.specs.Command.{Meaning, Means}
use Rattle.script.specs.Command.Meaning.{new, add, delete, parse, collect, restart, list, malformed}
use Rattle.text.specs.Puts.{Puts}
use Rattle.replies.specs.Printed.{answer_line, change_line, parse_line, collect_line}
use Rattle.listing.specs.Printed.{listing}

-- what the program keeps from line to line: the table's numbers, the link buffer, and the size of the link pool
pub record State : Type 0 where
  pub table : Mem
  pub links : List ℕ
  pub pool : ℕ

abbrev pub state : Mem → List ℕ → ℕ → State
state m b p = record { table = m; links = b; pool = p }

-- ---- the commands

-- "Here at most 128, 128 and 1,024"
unfoldable pub here : ℕ → ℕ → ℕ → Bool
here sets rules links = leb sets 128 and leb rules 128 and leb links 1024

-- "`N sets rules links`; prints the answer. Here at most 128, 128 and 1,024, else 10. .. A refused N keeps the old table", and the old
-- size of the link pool with it
pub record Makes (sets places size : ℕ) (d e : State) (text : List ℕ) : Type 0 where
  pub answer : ℕ
  pub promised : here sets places size ≡ true → NewPromised d.table e.table sets places answer
  pub bad_pool : here sets places size ≡ false → (answer ≡ BAD_POOL) × (e.table ≡ d.table)
  pub new_pool : answer ≡ DONE → e.pool ≡ size
  pub old_pool : answer ≢ DONE → e.pool ≡ d.pool
  pub printed : text ≡ answer_line answer
  pub links : e.links ≡ d.links

-- a call leaves link buffer and link pool alone
pub record Keeps (d e : State) : Type 0 where
  pub links : e.links ≡ d.links
  pub pool : e.pool ≡ d.pool

-- "`A left right..`, `D left right..`; prints the answer, and on 0 the rule number."
pub record Changes (call : Table → Outcome) (m n : Mem) (text : List ℕ) : Type 0 where
  pub answer : ℕ
  pub number : ℕ
  pub promised : Promised call m n answer number
  pub printed : text ≡ change_line answer number

-- "`P tokens..`; prints answer, links, sets in use, also on 20 and 21."
pub record Parsed (pool : ℕ) (tokens : List ℕ) (m n : Mem) (b c : List ℕ) (text : List ℕ) : Type 0 where
  pub verdict : Result Verdict Refusal
  pub parses : Parses pool tokens m n b c verdict
  pub printed : text ≡ parse_line (number_of (answer_of_parse verdict)) (links_with verdict) (in_use (view n))

-- "`G` collect, `R` restart; answer and sets in use."
pub record Collects (call : Table → Outcome) (m n : Mem) (text : List ℕ) : Type 0 where
  pub answer : ℕ
  pub promised : Promised call m n answer 0
  pub printed : text ≡ collect_line answer (in_use (view n))

-- "`L` prints the contents line .., then one body per set"; "Collect, Restart and the listing check 11 alone."
pub record Lists (m : Mem) (text : List ℕ) : Type 0 where
  pub listed : Formed m → text ≡ listing (view m)
  pub no_table : (Formed m → ⊥) → text ≡ answer_line BAD_TABLE

-- what a command with this meaning leaves and prints
pub data Obeys (d e : State) (text : List ℕ) : Meaning → Type 0 where
  makes : {s r l : ℕ} → Makes s r l d e text → Obeys d e text (new s r l)
  adds : {x : ℕ} {w : List ℕ} → Changes (λ t. calls.add t x w) d.table e.table text → Keeps d e → Obeys d e text (add x w)
  deletes : {x : ℕ} {w : List ℕ} → Changes (λ t. calls.delete t x w) d.table e.table text → Keeps d e → Obeys d e text (delete x w)
  parses : {w : List ℕ} → Parsed d.pool w d.table e.table d.links e.links text → e.pool ≡ d.pool → Obeys d e text (parse w)
  collects : Collects calls.collect d.table e.table text → Keeps d e → Obeys d e text collect
  restarts : Collects calls.restart d.table e.table text → Keeps d e → Obeys d e text restart
  lists : Lists d.table text → e ≡ d → Obeys d e text list
  -- "Anything malformed .. prints 22 once, and the line is skipped."
  skips : text ≡ answer_line MALFORMED → e ≡ d → Obeys d e text malformed

-- ---- a line

-- the line is answered: its meaning is obeyed and prints this text
pub record Answers (line : List ℕ) (d e : State) (text : List ℕ) : Type 0 where
  pub meaning : Meaning
  pub means : Means line meaning
  pub obeys : Obeys d e text meaning

-- and the text is put into the output from `at` on
pub record Prints (line : List ℕ) (d e : State) (before : List ℕ) (at : ℕ) (after : List ℕ) (past : ℕ) : Type 0 where
  pub text : List ℕ
  pub answers : Answers line d e text
  pub puts : Puts before at after past text
