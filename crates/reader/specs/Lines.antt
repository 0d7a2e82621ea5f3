-- The lines of a text that is at hand: what they leave, and what of it is kept. Assumes nothing.
use Rattle.std.specs.Prelude.{◌≡◌, List, ℕ, ◌-◌, ◌≤◌, length, take, drop}
use Rattle.desk.specs.Obeys.{State, Prints}
use Rattle.desk.specs.Script.{SameSizes, Ran, Last}
use Rattle.reader.specs.Output.{Ready, Waits}

-- a line is answered, and its text is put where the output is ready for it
pub record RanLine (l : List ℕ) (d e : State) (before : List ℕ) (used : ℕ) (after : List ℕ) (past : ℕ) : Type 0 where
  pub inside : past ≤ length before
  pub start : ℕ
  pub ready : Ready (length before) used start
  pub prints : Prints l d e before start after past
  pub sizes : SameSizes d e

-- the whole lines of a text are run, and what they print waits; `left` is what stands after the last newline
pub record RanText (text : List ℕ) (d e : State) (left before : List ℕ) (used : ℕ) (after : List ℕ) (past : ℕ) : Type 0 where
  pub printed : List ℕ
  pub ran : Ran d text e printed left
  pub waits : Waits before used printed after past

-- the first n bytes of a text are run: their lines up to the place `at`
pub record RanLines (text : List ℕ) (n : ℕ) (d e : State) (at : ℕ) (before : List ℕ) (used : ℕ) (after : List ℕ) (past : ℕ) : Type 0 where
  pub within : at ≤ n
  pub ran : RanText (take n text) d e (drop at (take n text)) before used after past

-- "the last may lack it": n bytes are run as the last line, unless there are none
pub record RanLast (text : List ℕ) (n : ℕ) (d e : State) (before : List ℕ) (used : ℕ) (after : List ℕ) (past : ℕ) : Type 0 where
  pub printed : List ℕ
  pub last : Last d (take n text) e printed
  pub waits : Waits before used printed after past

-- what stands from `at` up to `end` is moved to the front and cut to 1,283 bytes, r of them
pub record KeptRest (before : List ℕ) (at end : ℕ) (after : List ℕ) (r : ℕ) : Type 0 where
  pub few : r ≤ 1283
  pub all : end - at ≤ 1283 → r ≡ end - at
  pub cut : 1283 ≤ end - at → r ≡ 1283
  pub front : take r after ≡ take r (drop at before)
