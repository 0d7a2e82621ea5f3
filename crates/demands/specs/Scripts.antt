-- What a script holds and prints, in the terms of the demands. Assumes nothing.
use Rattle.std.specs.Prelude.{◌≡◌, List, ℕ}
use Rattle.theory.specs.Answers.{Decides}
use Rattle.theory.specs.Made.{Rule, grammar_of}
use Rattle.table.specs.Layout.{sets_in}
use Rattle.replies.specs.Printed.{parse_line}
use Rattle.desk.specs.Obeys.{State}
use Rattle.demands.specs.Run.{Run}

-- what the program holds between two lines: numbers that no good N has touched yet, or what a sequence of calls made
pub data AtDesk (d : State) : Type 0 where
  no_table : sets_in d.table.rules ≡ 0 → AtDesk d
  run : {R : List Rule} → Run d.table R → AtDesk d

-- a line of tokens was answered by the rules R, and that is what is printed
pub record PrintsVerdict (R : List Rule) (tokens text : List ℕ) : Type 0 where
  pub answer : ℕ
  pub links : ℕ
  pub sets : ℕ
  pub printed : text ≡ parse_line answer links sets
  pub decides : Decides (grammar_of R) tokens answer
