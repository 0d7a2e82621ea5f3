-- Parse's promise of an answer by its number. Assumes nothing.
use Rattle.std.specs.Prelude.{◌≡◌, Result, List, ℕ}
use Rattle.table.specs.Layout.{Mem}
use Rattle.symbols.specs.Answer.{number_of, answer_of_parse, links_with}
use Rattle.symbols.specs.declared.refusal.Refusal.{Refusal}
use Rattle.symbols.specs.declared.verdict.Verdict.{Verdict}
use Rattle.recogniser.specs.Parse.{Parses}

-- the recogniser's promise holds of a verdict with the answer number a and k links
pub record ParsesTo (pool : ℕ) (line : List ℕ) (m n : Mem) (b c : List ℕ) (a k : ℕ) : Type 0 where
  pub verdict : Result Verdict Refusal
  pub promise : Parses pool line m n b c verdict
  pub answer : a ≡ number_of (answer_of_parse verdict)
  pub links : k ≡ links_with verdict
