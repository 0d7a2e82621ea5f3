-- What the steps of reading a line hand back. A text is what stands from a place of the line on. Assumes nothing.
use Rattle.std.specs.Prelude.{◌≡◌, List, ◌∷◌, ℕ, ◌+◌, ◌-◌, ◌*◌, ◌≤◌, Option, Some, None, length, get_or, take, drop}
use Rattle.laws.specs.Choice.{when}
use Rattle.text.specs.Text.{is_digit, decimal}
use Rattle.script.specs.Written.{AtLineEnd, Numbered, Starts, Capital}
use Rattle.script.specs.declared.cursor.Cursor.{Cursor}
use Rattle.script.specs.declared.cursor.Digits.{Digits}

-- ---- a letter

pub record LetterIs (line : List ℕ) (at letter : ℕ) (after : Cursor) : Type 0 where
  pub capital : Capital letter
  pub is : drop at line ≡ letter ∷ drop after.at line
  pub past : after.at ≡ at + 1
  pub inside : after.at ≤ length line

-- a capital letter and the place after it, or that none stands there
unfoldable pub LetterAt : List ℕ → ℕ → Option (ℕ × Cursor) → Type 0
LetterAt line at (Some (b, after)) = LetterIs line at b after
LetterAt line at None = (b : ℕ) (rest : List ℕ) → Capital b → drop at line ≡ b ∷ rest → ⊥

-- ---- a number

pub record NumberIs (line : List ℕ) (at n : ℕ) (after : Cursor) : Type 0 where
  pub starts : Starts (drop at line) n (drop after.at line)
  pub past : after.at ≡ at + 1 + length (decimal n)
  pub inside : after.at ≤ length line

-- a number after a single space and the place after it, or that none stands there
unfoldable pub NumberAt : List ℕ → ℕ → Option (ℕ × Cursor) → Type 0
NumberAt line at (Some (n, after)) = NumberIs line at n after
NumberAt line at None = (n : ℕ) (rest : List ℕ) → Starts (drop at line) n rest → ⊥

-- the value of the digit at a place, if one stands there
unfoldable pub digit_at : List ℕ → ℕ → Option ℕ
digit_at line at = when (is_digit (get_or line at 0)) (Some (get_or line at 0 - 48)) None

-- the digits with one after them, if there is one
unfoldable pub with_digit : Digits → Option ℕ → Digits
with_digit d (Some x) = record { value = d.value * 10 + x; at = d.at + 1 }
with_digit d None = d

-- the digits with the one after them, if there is one
abbrev pub more : List ℕ → Digits → Digits
more line d = with_digit d (digit_at line d.at)

-- the number that the digits are and the place after it, unless one more follows them
unfoldable pub unless_digit : Digits → Option ℕ → Option (ℕ × Cursor)
unless_digit d (Some x) = None
unless_digit d None = Some (d.value, record { at = d.at })

abbrev pub ended : List ℕ → Digits → Option (ℕ × Cursor)
ended line d = unless_digit d (digit_at line d.at)

-- ---- the line's end

pub record LineEndIs (line : List ℕ) (at : ℕ) (after : Cursor) : Type 0 where
  pub ends : AtLineEnd (drop at line)
  pub past : drop after.at line ≡ drop 1 (drop at line)

-- the place after the newline, or the same place where the text is over without one; or that the line goes on
unfoldable pub LineEndAt : List ℕ → ℕ → Option Cursor → Type 0
LineEndAt line at (Some after) = LineEndIs line at after
LineEndAt line at None = AtLineEnd (drop at line) → ⊥

-- ---- numbers up to the line's end

pub record NumbersAre (line : List ℕ) (at : ℕ) (out : List ℕ) (n : ℕ) (after : Cursor) : Type 0 where
  pub room : n ≤ length out
  pub rest : List ℕ
  pub numbered : Numbered (drop at line) (take n out) rest
  pub past : drop after.at line ≡ drop 1 rest

-- how many there are, and they are in the buffer, with the place after the line's end; or the text is not that of numbers for which
-- the buffer has room
unfoldable pub NumbersAt : List ℕ → ℕ → List ℕ → Option (ℕ × Cursor) → Type 0
NumbersAt line at out (Some (n, after)) = NumbersAre line at out n after
NumbersAt line at out None = (ns rest : List ℕ) → Numbered (drop at line) ns rest → length ns ≤ length out → ⊥
