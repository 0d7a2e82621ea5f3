-- Scripts in 01's letters, run through the real calls, and what each command prints, as numbers. Assumes nothing.
use Rattle.std.specs.Prelude.{Bool, List, [], ◌∷◌, ◌++◌, map, ℕ, eqb, ltb, leb, length}
use Rattle.laws.specs.Choice.{◌and◌, ◌or◌, when}
use Rattle.laws.specs.Lists.{keep, up_from}
use Rattle.theory.specs.Table.{EXPANDED, Item, Transition, SetPlace, Table, set_at, in_use}
use Rattle.theory.specs.Parse.{Outcome}
use Rattle.theory.specs.Form.{in_form}
use Rattle.theory.specs.Calls.{new, collect, restart, refused}
use Rattle.theory.specs.Calls as calls

pub data Command : Type 0 where
  N : (sets rules links : ℕ) → Command
  A D : (left : ℕ) (right : List ℕ) → Command
  P : (tokens : List ℕ) → Command
  G R L : Command

-- "each set in use, e expanded or u not"
pub data Mark : Type 0 where
  e u : ℕ → Mark

-- what is printed: numbers; the contents line; "one body per set", of an unexpanded set its kernel, of an expanded one also its
-- transitions, reductions and accept mark
pub data Line : Type 0 where
  says : List ℕ → Line
  C : List Mark → Line
  K : (set : ℕ) (kernel : List Item) → Line
  S : (set : ℕ) (kernel : List Item) (transitions : List Transition) (reductions : List ℕ) (accepts : ℕ) → Line

-- ---- the listing

abbrev pub is_expanded : SetPlace → Bool
is_expanded p = eqb p.state EXPANDED

abbrev pub numbers : Table → List ℕ
numbers t = keep (λ s. ltb 0 (set_at t.sets s).state) (up_from 0 (length t.sets))

abbrev pub body : ℕ → SetPlace → Line
body s p = when (is_expanded p) (S s p.kernel p.transitions p.reductions (when p.accepts 1 0)) (K s p.kernel)

abbrev pub listed : Table → List Line
listed t =
    let marks = map (λ s. when (is_expanded (set_at t.sets s)) (e s) (u s)) (numbers t) in
    let bodies = map (λ s. body s (set_at t.sets s)) (numbers t) in
    when (in_form t) (C marks ∷ bodies) (says (11 ∷ []) ∷ [])

-- ---- the commands

-- the table and the link size of the last good N
pub record State : Type 0 where
  pub table : Table
  pub links : ℕ

pub record Done : Type 0 where
  pub state : State
  pub prints : List Line

-- "Here at most 128, 128 and 1,024, else 10." "A refused N keeps the old table."
abbrev pub renewed : State → ℕ → ℕ → ℕ → Done
renewed x s r l =
    let o = when (leb s 128 and leb r 128 and leb l 1024) (new x.table s r) (refused 10 x.table) in
    record { state = record { table = o.table; links = when (eqb o.answer 0) l x.links }; prints = says (o.answer ∷ []) ∷ [] }

-- "Other refusals print the number alone."
abbrev pub done : State → Outcome → Bool → List ℕ → Done
done x o good more = record { state = record { table = o.table; links = x.links }; prints = says (o.answer ∷ when good more []) ∷ [] }

-- the calls that a command runs
pub record Reader : Type 0 where
  pub add : Table → ℕ → List ℕ → Outcome
  pub delete : Table → ℕ → List ℕ → Outcome
  pub parse : Table → ℕ → List ℕ → Outcome

abbrev pub real : Reader
real = record { add = calls.add; delete = calls.delete; parse = calls.parse }

abbrev pub does : Reader → State → Command → Done
does c x (N s r l) = renewed x s r l
-- "prints the answer, and on 0 the rule number"
does c x (A y w) = let o = c.add x.table y w in done x o (eqb o.answer 0) (o.number ∷ [])
does c x (D y w) = let o = c.delete x.table y w in done x o (eqb o.answer 0) (o.number ∷ [])
-- "prints answer, links, sets in use, also on 20 and 21"
does c x (P line) =
    let o = c.parse x.table x.links line in
    done x o (eqb o.answer 1 or eqb o.answer 2 or eqb o.answer 20 or eqb o.answer 21) (o.number ∷ in_use o.table ∷ [])
-- "answer and sets in use"
does c x G = let o = collect x.table in done x o (eqb o.answer 0) (in_use o.table ∷ [])
does c x R = let o = restart x.table in done x o (eqb o.answer 0) (in_use o.table ∷ [])
does c x L = record { state = x; prints = listed x.table }

abbrev pub printed : Reader → State → List Command → List Line
printed c x [] = []
printed c x (y ∷ ys) = let d = does c x y in d.prints ++ printed c d.state ys

-- "Before the first good N the table is all zero"
abbrev pub zero : State
zero = record { table = record { rules = []; sets = [] }; links = 0 }

abbrev pub run_by : Reader → List Command → List Line
run_by c script = printed c zero script

abbrev pub run : List Command → List Line
run script = run_by real script
