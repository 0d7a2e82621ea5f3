-- The link buffer of a line that was accepted is what gathering asks for. Assumes nothing.
use mathlib.Core.Path.{◌≡◌, refl}
use mathlib.Core.List.{List, []}
use Prim.Native.Nat.{ℕ, ◌+◌}
use native.Mathlib.Omega.{arith}
use lib.ListN.{length}
use Rattle.theory.specs.Table.{Table}
use Rattle.theory.specs.Parse.{Link}
use Rattle.theory.specs.Reaches.{Reaches}
use Rattle.theory.specs.Reaches.Reaches.{there, expands, shifts}
use Rattle.table.specs.Layout.{Mem}
use Rattle.positions.specs.Reading.{Holds}
use Rattle.spans.specs.Gathered.{Graphed}

-- a step on is a token less to come
tokens_read : {pool : ℕ} {t u : Table} {p q : ℕ} {ls ms : List Link} {v w : List ℕ} → Reaches pool t p ls v u q ms w → q + length w ≡ p + length v
tokens_read there = refl
tokens_read (expands a b c d r) = tokens_read r
tokens_read (shifts a b c d r) = omega (arith, tokens_read r)

pub holds_graphed : {pool : ℕ} {t : Table} {line : List ℕ} {m : Mem} {b : List ℕ} {l : ℕ} → Holds pool t 0 [] line m b l
    → Graphed m.rules m.sets.words (length line) b l
holds_graphed {m = m} h = record {
  cells = m.sets.cells;
  formed = h.stands.formed;
  last = h.last;
  at = h.at;
  nodes = h.nodes;
  sets = h.stands.sets;
  position = omega (arith, tokens_read h.reaches);
  held = h.stands.held;
}
