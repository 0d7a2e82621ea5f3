-- Bytes put into a lent text, one after the other. Assumes nothing.
use Rattle.std.specs.Prelude.{◌≡◌, List, [], ◌∷◌, ◌++◌, ℕ, ◌+◌, ◌/◌, ◌%◌, leb, length, take, drop}
use Rattle.laws.specs.Choice.{when}
use Rattle.text.specs.Text.{digit}
use Rattle.text.specs.declared.Text.{Text}

-- The bytes are put from `at` on, and `past` is the place after them. What stands before them and beyond them is as it was.
pub record Puts (before : List ℕ) (at : ℕ) (after : List ℕ) (past : ℕ) (bytes : List ℕ) : Type 0 where
  pub moved : past ≡ at + length bytes
  pub so_far : take past after ≡ take at before ++ bytes
  pub beyond : drop past after ≡ drop past before

-- The bytes are put at the end of a text, whose end is then the place after them. It is the same lent output, of the same length.
pub record Adds (before after : Text) (bytes : List ℕ) : Type 0 where
  pub same : after.bytes.ghost_name ≡ before.bytes.ghost_name
  pub room : length after.bytes.now ≡ length before.bytes.now
  pub puts : Puts before.bytes.now before.end after.bytes.now after.end bytes

-- the digit of n that counts units of 10, 100 or 1000, if n has it
unfoldable pub digit_of : (unit n : ℕ) → List ℕ
digit_of unit n = when (leb unit n) (digit (n / unit % 10) ∷ []) []
