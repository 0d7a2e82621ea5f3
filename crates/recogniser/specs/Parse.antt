-- What Parse promises of its answer and of every lent number. Assumes nothing.
use Rattle.std.specs.Prelude.{◌≡◌, ◌⊎◌, Result, List, ℕ, leb, length}
use Rattle.laws.specs.Choice.{when}
use Rattle.symbols.specs.Answer.{ACCEPT, REJECT, BAD_POOL, NO_SETS, NO_LINKS, number_of, answer_of_parse, links_with}
use Rattle.theory.specs.Table.{Table}
use Rattle.theory.specs.Parse.{Outcome}
use Rattle.theory.specs.Calls.{refused, checked, parse}
use Rattle.table.specs.Layout.{Mem}
use Rattle.table.specs.Becomes.{Promised}
use Rattle.links.specs.Records.{numbers_for}
use Rattle.links.specs.Held.{Cleared}
use Rattle.symbols.specs.declared.refusal.Refusal.{Refusal}
use Rattle.symbols.specs.declared.verdict.Verdict.{Verdict}

-- Parse over a lent link buffer: "BAD-POOL: .. Parse's link size outside its range, or the slices lent for them too short"
abbrev pub lent_parse : List ℕ → ℕ → List ℕ → Table → Outcome
lent_parse b pool line t = when (leb (numbers_for pool) (length b)) (parse t pool line) (checked t (refused BAD_POOL t))

-- the answers of a parse that got past its checks
abbrev pub Past : ℕ → Type 0
Past a = (a ≡ ACCEPT) ⊎ ((a ≡ REJECT) ⊎ ((a ≡ NO_SETS) ⊎ (a ≡ NO_LINKS)))

-- A parse with the table's numbers m before and n after, the link buffer b before and c after: "After every parse that got past its
-- checks the pool's part of the link buffer is all zero; numbers beyond it are never touched."
pub record Parses (pool : ℕ) (line : List ℕ) (m n : Mem) (b c : List ℕ) (v : Result Verdict Refusal) : Type 0 where
  pub promised : Promised (lent_parse b pool line) m n (number_of (answer_of_parse v)) (links_with v)
  pub cleared : Past (number_of (answer_of_parse v)) → Cleared (numbers_for pool) b c
  pub untouched : (Past (number_of (answer_of_parse v)) → ⊥) → c ≡ b
