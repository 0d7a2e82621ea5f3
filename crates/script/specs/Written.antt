-- A command line as it is written. Assumes nothing.
use Rattle.std.specs.Prelude.{false, ◌≡◌, ◌⊎◌, ℕ, ◌≤◌, length, get_or}
use mathlib.Core.List.{List, [], ◌∷◌, ◌++◌, Memᴰ as In}
use Rattle.text.specs.Text.{SPACE, NEWLINE, is_digit, decimal, spaced}

-- the text that is left is at the end of a line: it is over, or goes on with a newline
abbrev pub AtLineEnd : List ℕ → Type 0
AtLineEnd text = get_or text 0 NEWLINE ≡ NEWLINE

-- a text that is numbers, "each after a single space", up to the end of the line, and goes on as `rest`
pub record Numbered (text : List ℕ) (ns rest : List ℕ) : Type 0 where
  pub is : text ≡ spaced ns ++ rest
  pub small : (n : ℕ) → In n ns → n ≤ 9999
  pub ends : AtLineEnd rest

-- a text that starts with a number after a single space and goes on as `rest`, which does not start with a digit
pub record Starts (text : List ℕ) (n : ℕ) (rest : List ℕ) : Type 0 where
  pub is : text ≡ SPACE ∷ (decimal n ++ rest)
  pub small : n ≤ 9999
  pub ends : is_digit (get_or rest 0 0) ≡ false

-- "a capital letter"
pub record Capital (letter : ℕ) : Type 0 where
  pub from_a : 65 ≤ letter
  pub to_z : letter ≤ 90

-- "a capital letter, then decimal numbers 0 to 9999 without leading zeros, each after a single space, then a newline (the last may
-- lack it)", 256 numbers at most
pub record Written (line : List ℕ) (letter : ℕ) (ns : List ℕ) : Type 0 where
  pub end : List ℕ
  pub newline : (end ≡ []) ⊎ (end ≡ NEWLINE ∷ [])
  pub capital : Capital letter
  pub is : line ≡ letter ∷ (spaced ns ++ end)
  pub small : (n : ℕ) → In n ns → n ≤ 9999
  pub few : length ns ≤ 256
