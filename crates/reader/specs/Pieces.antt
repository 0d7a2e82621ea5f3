-- A script that comes in pieces: what a reading brings, what a turn does with it, and what the whole of it does. Assumes nothing.
use Rattle.std.specs.Prelude.{◌≡◌, ◌⊎◌, zero, suc, Result, Ok, Err, List, ◌++◌, ℕ, ◌+◌, ◌≤◌, ◌<◌, length, take, drop}
use Rattle.table.specs.Layout.{Mem}
use Rattle.desk.specs.Obeys.{State, state}
use Rattle.desk.specs.Script.{Ran, Last, Script, blank}
use Rattle.reader.specs.declared.pieces.Standing.{Standing}
use Rattle.reader.specs.declared.pieces.Standing.TheVariants.{More, Whole, Unread, Unwritten}

-- ---- a reading

-- n bytes more stand behind those that are held, one at least
abbrev pub Behind : (text : List ℕ) (held n : ℕ) → Type 0
Behind text held n = (0 < n) × (held + n ≤ length text)

-- n bytes were read, or none at the end; or the reading failed
abbrev pub Brought : {E : Type 0} → (text : List ℕ) (held : ℕ) → Result ℕ E → Type 0
Brought text held (Ok n) = held + n ≤ length text
Brought text held (Err error) = Unit {0}

-- the bytes held are as they were, and of what was read `Read::read` says how much it is
pub record Filled {E : Type 0} (before : List ℕ) (held : ℕ) (after : List ℕ) (r : Result ℕ E) : Type 0 where
  pub kept : take held after ≡ take held before
  pub brought : Brought after held r

-- ---- a turn

-- how scripts stand of which one could not be read
abbrev pub at_best_unread : Standing → Standing
at_best_unread More = Unread
at_best_unread Whole = Unread
at_best_unread Unread = Unread
at_best_unread Unwritten = Unwritten

-- a script stands so, unless what it printed could not be written
abbrev pub Unless : Standing → Standing → Type 0
Unless s r = (r ≡ s) ⊎ (r ≡ Unwritten)

-- a piece came behind the bytes that were held: the lines that are whole then are run, and of what stands after them so much is held as a
-- line's meaning needs
pub record Fed (held piece : List ℕ) (d e : State) (now_held : List ℕ) : Type 0 where
  pub printed : List ℕ
  pub left : List ℕ
  pub ran : Ran d (held ++ piece) e printed left
  pub cut : now_held ≡ take 1283 left

pub record RanPiece (text : List ℕ) (held n : ℕ) (d e : State) (after : List ℕ) (now_held : ℕ) (r : Standing) : Type 0 where
  pub few : now_held ≤ 1283
  pub fed : Fed (take held text) (take n (drop held text)) d e (take now_held after)
  pub standing : Unless More r

-- nothing more came: what is held is run as the last line
pub record RanEnd (text : List ℕ) (held : ℕ) (d e : State) (now_held : ℕ) (r : Standing) : Type 0 where
  pub none_held : now_held ≡ 0
  pub printed : List ℕ
  pub last : Last d (take held text) e printed
  pub standing : Unless Whole r

-- the reading failed: nothing that is held is run
pub record RanNothing (held : ℕ) (d e : State) (now_held : ℕ) (r : Standing) : Type 0 where
  pub same_held : now_held ≡ held
  pub same_state : e ≡ d
  pub standing : r ≡ Unread

-- what a turn does, by what the reading brought
abbrev pub Turned : {E : Type 0} → Result ℕ E → (text : List ℕ) (held : ℕ) (d e : State) (after : List ℕ) (now_held : ℕ) → Standing → Type 0
Turned (Ok zero) text held d e after now_held r = RanEnd text held d e now_held r
Turned (Ok (suc n)) text held d e after now_held r = RanPiece text held (suc n) d e after now_held r
Turned (Err error) text held d e after now_held r = RanNothing held d e now_held r

-- ---- the whole of it: the script is the bytes that were read, one piece after the other, however they came

-- the script is run to its end
pub record RanWhole (d e : State) : Type 0 where
  pub text : List ℕ
  pub printed : List ℕ
  pub script : Script d text e printed

-- the script is run up to the last newline that was read
pub record RanPart (d e : State) : Type 0 where
  pub text : List ℕ
  pub printed : List ℕ
  pub left : List ℕ
  pub ran : Ran d text e printed left

-- more bytes than any script has: a turn that goes on brings one at least, and so many turns are taken
abbrev pub NO_END : ℕ
NO_END = 18446744073709551615

-- a script is run to its end, or breaks off behind a line where the reading or the writing fails
abbrev pub Ends : Standing → State → State → Type 0
Ends More d e = (r : RanPart d e) × (NO_END ≤ length r.text)
Ends Whole d e = RanWhole d e
Ends Unread d e = RanPart d e
Ends Unwritten d e = RanWhole d e ⊎ RanPart d e

-- and leaves some size of the link pool
abbrev pub RanScript : Standing → (d : State) (m : Mem) (links : List ℕ) → Type 0
RanScript r d m links = (pool : ℕ) × Ends r d (state m links pool)

-- "Before the first good N the table is all zero": so each script begins
abbrev pub RanFromBlank : Standing → Type 0
RanFromBlank r = (e : State) × Ends r blank e
