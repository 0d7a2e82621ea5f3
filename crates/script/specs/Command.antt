-- What a command line means, in 01's words ("The program"), and how what is read tells it. Assumes nothing.
use Rattle.std.specs.Prelude.{Bool, ◌≡◌, List, [], ◌∷◌, ℕ, ◌+◌, ◌≤◌, ◌<◌, Option, Some, None, eqb, leb, length, get_or, take, drop}
use Rattle.laws.specs.Choice.{when}
use Rattle.std.specs.List.{list_all}
use Rattle.script.specs.Written.{Written}
use Rattle.script.specs.declared.command.Command.{Command}
use Rattle.script.specs.declared.command.Command.TheVariants.{New, Add, Delete, Parse, Collect, Restart, List as Listing}

pub data Meaning : Type 0 where
  new : (sets rules links : ℕ) → Meaning
  add delete : (left : ℕ) (right : List ℕ) → Meaning
  parse : (tokens : List ℕ) → Meaning
  collect restart list malformed : Meaning

-- "`N` alone means 128 128 1024" (W-201); "N with one, two or over three numbers" is malformed
abbrev pub as_new : List ℕ → Meaning
as_new [] = new 128 128 1024
as_new (a ∷ []) = malformed
as_new (a ∷ b ∷ []) = malformed
as_new (a ∷ b ∷ c ∷ []) = new a b c
as_new (a ∷ b ∷ c ∷ d ∷ ns) = malformed

-- "A or D without a left symbol" is malformed
abbrev pub as_rule : (ℕ → List ℕ → Meaning) → List ℕ → Meaning
as_rule f [] = malformed
as_rule f (x ∷ w) = f x w

-- "G, R or L with any" numbers is malformed
abbrev pub alone : Meaning → List ℕ → Meaning
alone m [] = m
alone m (a ∷ ns) = malformed

-- each number is a byte
abbrev pub bytes : List ℕ → Bool
bytes ns = list_all (λ n. leb n 255) ns

-- "a symbol or token above 255" is malformed
abbrev pub of_symbols : List ℕ → Meaning → Meaning
of_symbols ns m = when (bytes ns) m malformed

-- the letters N, A, D, P, G, R and L; any other is malformed
unfoldable pub meaning_of : ℕ → List ℕ → Meaning
meaning_of c ns =
    when (eqb c 78) (as_new ns)
    (when (eqb c 65) (of_symbols ns (as_rule add ns))
    (when (eqb c 68) (of_symbols ns (as_rule delete ns))
    (when (eqb c 80) (of_symbols ns (parse ns))
    (when (eqb c 71) (alone collect ns)
    (when (eqb c 82) (alone restart ns)
    (when (eqb c 76) (alone list ns)
    malformed))))))

-- A line that is written as a letter and numbers means what they mean; "anything malformed" is every other line
pub data Means (line : List ℕ) : Meaning → Type 0 where
  written : {c : ℕ} {ns : List ℕ} → Written line c ns → Means line (meaning_of c ns)
  not_written : ((c : ℕ) (ns : List ℕ) → Written line c ns → ⊥) → Means line malformed

-- ---- what is read, and how it tells the meaning

-- how many symbols a command has: the left one is counted; what is malformed has none
abbrev pub symbols_of : Option Command → ℕ
symbols_of (Some (New s r l)) = 0
symbols_of (Some (Add n)) = n + 1
symbols_of (Some (Delete n)) = n + 1
symbols_of (Some (Parse n)) = n
symbols_of (Some Collect) = 0
symbols_of (Some Restart) = 0
symbols_of (Some Listing) = 0
symbols_of None = 0

-- the meaning that a command tells, with its symbols in the buffer, the left one first; no command tells that the line is malformed
abbrev pub told : List ℕ → Option Command → Meaning
told symbols (Some (New s r l)) = new s r l
told symbols (Some (Add n)) = add (get_or symbols 0 0) (take n (drop 1 symbols))
told symbols (Some (Delete n)) = delete (get_or symbols 0 0) (take n (drop 1 symbols))
told symbols (Some (Parse n)) = parse (take n symbols)
told symbols (Some Collect) = collect
told symbols (Some Restart) = restart
told symbols (Some Listing) = list
told symbols None = malformed

-- the command tells what a letter and its numbers mean; it has as many symbols as there are numbers at most, and they are bytes
pub record Tells (letter : ℕ) (ns : List ℕ) (r : Option Command) : Type 0 where
  pub means : told ns r ≡ meaning_of letter ns
  pub within : symbols_of r ≤ length ns
  pub bytes : (k : ℕ) → k < symbols_of r → get_or ns k 0 ≤ 255

-- What is read of a line: the command and the symbols in the buffer tell what the line means. There are 256 symbols at most,
-- and the buffer is as it was beyond them.
pub record Reads (line before after : List ℕ) (r : Option Command) : Type 0 where
  pub means : Means line (told after r)
  pub few : symbols_of r ≤ 256
  pub beyond : drop (symbols_of r) after ≡ drop (symbols_of r) before
