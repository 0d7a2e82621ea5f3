-- What a script as a whole does, in 01's words ("The program"): "It reads a script and prints one line for each command (L several)";
-- "then a newline (the last may lack it)"; "Before the first good N the table is all zero". Assumes nothing.
use Rattle.std.specs.Prelude.{◌≡◌, ◌≢◌, ℕ, length, replicate}
use mathlib.Core.List.{List, [], ◌∷◌, ◌++◌, Memᴰ as In}
use Rattle.text.specs.Text.{NEWLINE}
use Rattle.table.specs.Layout.{mem}
use Rattle.desk.specs.Obeys.{State, state, Answers}

-- no newline stands in it
abbrev pub Unbroken : List ℕ → Type 0
Unbroken l = In NEWLINE l → ⊥

-- a slice keeps its length, whatever is put into it
pub record SameSizes (d e : State) : Type 0 where
  pub rules : length e.table.rules ≡ length d.table.rules
  pub cells : length e.table.sets.cells ≡ length d.table.sets.cells
  pub words : length e.table.sets.words ≡ length d.table.sets.words
  pub links : length e.links ≡ length d.links

-- The lines of a text that have their newline are answered one after the other, each from the state that the one before it left, and
-- their texts are printed in that order; `rest` is what stands after the last newline
pub data Ran : State → List ℕ → State → List ℕ → List ℕ → Type 0 where
  rest : {d : State} {l : List ℕ} → Unbroken l → Ran d l d [] l
  line : {d e f : State} {l text whole answer printed all left : List ℕ} → Unbroken l → Answers (l ++ (NEWLINE ∷ [])) d e answer → SameSizes d e
      → Ran e text f printed left → (l ++ (NEWLINE ∷ [])) ++ text ≡ whole → answer ++ printed ≡ all → Ran d whole f all left

-- "the last may lack it": what stands after the last newline is a line too, unless it is nothing
pub data Last (d : State) : List ℕ → State → List ℕ → Type 0 where
  nothing : Last d [] d []
  unended : {e : State} {l answer : List ℕ} → l ≢ [] → Answers l d e answer → SameSizes d e → Last d l e answer

-- a script leads from the state d to the state e and prints a text: its lines in order, then the last if it lacks its newline
pub record Script (d : State) (script : List ℕ) (e : State) (printed : List ℕ) : Type 0 where
  pub between : State
  pub left : List ℕ
  pub first : List ℕ
  pub then : List ℕ
  pub ran : Ran d script between first left
  pub last : Last between left e then
  pub in_order : first ++ then ≡ printed

-- a line of a script, with the state that the lines before it left, its own state, and what it prints
pub data LineOf : State → List ℕ → State → List ℕ → State → List ℕ → Type 0 where
  first : {d e : State} {script l line answer : List ℕ} (rest : List ℕ) → Unbroken l → l ++ (NEWLINE ∷ []) ≡ line → line ++ rest ≡ script
      → Answers line d e answer → LineOf d script d line e answer
  later : {d e f g : State} {script rest l earlier answer line text : List ℕ} → Unbroken l → l ++ (NEWLINE ∷ []) ≡ earlier
      → earlier ++ rest ≡ script → Answers earlier d e answer → LineOf e rest f line g text → LineOf d script f line g text
  last : {d e : State} {script answer : List ℕ} → script ≢ [] → Unbroken script → Answers script d e answer
      → LineOf d script d script e answer

-- what a script begins with: numbers for 128 sets and 128 rules, for 1,024 links, all zero
unfoldable pub blank : State
blank = state (mem (replicate 1282 0) (replicate 16384 0) (replicate 2304 0)) (replicate 6150 0) 0
