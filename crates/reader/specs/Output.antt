-- The output, a buffer in which what is printed waits to be written out. Assumes nothing.
use Rattle.std.specs.Prelude.{◌≡◌, List, ◌++◌, ℕ, ◌+◌, ◌≤◌, ◌<◌, length, take}

-- `used` bytes wait in an output of this size: the next line's text goes behind them if there is room for any text, else to the front
pub record Ready (size used start : ℕ) : Type 0 where
  pub room : start + 1056768 ≤ size
  pub behind : used + 1056768 ≤ size → start ≡ used
  pub front : size < used + 1056768 → start ≡ 0

-- `used` bytes waited, a text was printed, and `past` bytes wait now: what is gone, then what waits, is what waited, then what was
-- printed. What is gone went to be written, of which no contract can speak; none goes unless too much waits for a text to fit behind it
pub record Waits (before : List ℕ) (used : ℕ) (printed after : List ℕ) (past : ℕ) : Type 0 where
  pub inside : past ≤ length before
  pub gone : List ℕ
  pub in_order : gone ++ take past after ≡ take used before ++ printed
  pub full : 0 < length gone → length before < length gone + 1056768
