-- What gathering the spans of a line asks for and what it leaves. Assumes nothing.
use Rattle.std.specs.Prelude.{◌≡◌, List, ℕ, ◌+◌, ◌≤◌, ◌<◌, length}
use Rattle.table.specs.Layout.{mem, sets_in}
use Rattle.table.specs.Laid.{Formed}
use Rattle.links.specs.declared.Here.{Here}
use Rattle.links.specs.Records.{graph, counts}
use Rattle.links.specs.Held.{Held}
use Rattle.leftmost.specs.Within.{Spans}
use Rattle.spans.specs.Area.{area_for, key_at, symbol_at, start_at, end_at, cost_at, choice_at, first_at, Place}

-- The link buffer b holds the graph of a line of n tokens that was read to its end, l links, on a table in form whose rules and words
-- these are
pub record Graphed (rules words : List ℕ) (n : ℕ) (b : List ℕ) (l : ℕ) : Type 0 where
  pub cells : List ℕ
  pub formed : Formed (mem rules cells words)
  pub last : Here
  pub at : List ℕ
  pub nodes : ℕ
  pub sets : last.sets ≡ sets_in rules
  pub position : last.position ≡ n
  pub held : Held last (graph b at (counts nodes l 0))

-- f is the first of `count` places whose span ends at j or later
pub record First (a : List ℕ) (count j f : ℕ) : Type 0 where
  pub inside : f ≤ count
  pub before : (e : ℕ) → e < f → end_at a e < j
  pub after : (e : ℕ) → f ≤ e → e < count → j ≤ end_at a e

-- no key twice: by end, within an end by start, later starts first, and within a cell by symbol
abbrev pub Ascending : List ℕ → ℕ → Type 0
Ascending a count = (e f : ℕ) → e < f → f < count → key_at a e < key_at a f

-- the keys are in order, and the first place of each end, 0 to n, is there; the last of these numbers is the number of spans. Costs and
-- choices have no part in it
pub record Ordered (n : ℕ) (a : List ℕ) (count : ℕ) : Type 0 where
  pub short : n ≤ 255
  pub room : area_for n ≤ length a
  pub few : count ≤ 4097
  pub ascending : Ascending a count
  pub firsts : (j : ℕ) → j ≤ n + 1 → First a count j (first_at a j)
  pub last : first_at a (n + 1) ≡ count

-- the same, and j is an end of the line
pub record OrderedAt (j : ℕ) (a : List ℕ) (count : ℕ) : Type 0 where
  pub n : ℕ
  pub inside : j ≤ n
  pub ordered : Ordered n a count

-- the places are those of the spans S, and of no others
pub record Shows (S : Spans) (a : List ℕ) (count : ℕ) : Type 0 where
  pub every : (x i j : ℕ) → S x i j → (e : ℕ) × (e < count) × Place a e x i j
  pub only : (e : ℕ) → e < count → S (symbol_at a e) (start_at a e) (end_at a e)

-- the spans S of a line of n tokens, with nothing kept yet
pub record Gathered (n : ℕ) (S : Spans) (a : List ℕ) (count : ℕ) : Type 0 where
  pub ordered : Ordered n a count
  pub shows : Shows S a count
  pub costs : (e : ℕ) → e < count → cost_at a e ≡ 0
  pub choices : (e : ℕ) → e < count → choice_at a e ≡ 0
