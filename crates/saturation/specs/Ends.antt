-- What the public functions promise, in the order-free terms of theory's Steps. Assumes nothing.
use Rattle.std.specs.Prelude.{◌≡◌, ◌≢◌, ℕ, ◌+◌, ◌*◌, ◌≤◌, ◌<◌, T, length, get_or, Option, Some, None}
use mathlib.Core.List.{List, Memᴰ as In}
use Rattle.theory.specs.Table.{UNEXPANDED, Table, set_at}
use Rattle.theory.specs.Parse.{Link, nodes_at}
use Rattle.theory.specs.Steps.{Saturated, Lowest, Shifted}
use Rattle.links.specs.declared.Counts.{Counts}
use Rattle.links.specs.declared.Here.{Here}
use Rattle.links.specs.Records.{in_set, Graph, graph, links_of}
use Rattle.links.specs.Held.{Held}

-- "Saturate: .. Until nothing is new; each link counts once. More links than the pool: NO-LINKS."
pub record Saturates (t : Table) (h : Here) (x y : Graph) : Type 0 where
  pub held : Held h y
  pub whole : y.over ≡ 0 → Saturated t h.position (links_of x) (links_of y)
  pub more : y.over ≢ 0 → (m : List Link) → Saturated t h.position (links_of x) m → h.size < length m

-- the next position, whose nodes are those from n on
abbrev pub next : Here → ℕ → Here
next h n = record { position = h.position + 1; start = n; size = h.size; sets = h.sets }

-- "for each node here with a transition on the next token, link (next position, target) to it. .. More than the pool: NO-LINKS."
pub record Shifts (t : Table) (h : Here) (token : ℕ) (x y : Graph) : Type 0 where
  pub held : Held (next h x.nodes) y
  pub whole : y.over ≡ 0 → Shifted t h.position token (links_of x) (links_of y)
  pub more : y.over ≢ 0 → (m : List Link) → Shifted t h.position token (links_of x) m → h.size < length m

-- the buffer holds a graph, with some map to it
abbrev pub Standing : Here → List ℕ → Counts → Type 0
Standing h b c = (at : List ℕ) × Held h (graph b at c)

-- "accept if a node here has the accept mark"
pub record Accepting (t : Table) (p : ℕ) (ls : List Link) : Type 0 where
  pub set : ℕ
  pub here : In set (nodes_at ls p)
  pub mark : T (set_at t.sets set).accepts

-- "If a node here has an unexpanded set, .. the lowest-numbered one"
abbrev pub Waiting : Table → ℕ → List Link → (Option ℕ) → Type 0
Waiting t p ls (Some u) = Lowest t p ls u
Waiting t p ls None = (v : ℕ) → In v (nodes_at ls p) → (set_at t.sets v).state ≢ UNEXPANDED

-- ---- the same over the numbers, of the nodes from lo, below hi

-- one of them has the mark k
pub record Marked (b cells : List ℕ) (lo hi k : ℕ) : Type 0 where
  pub m : ℕ
  pub from : lo ≤ m
  pub low : m < hi
  pub mark : get_or cells (in_set b m * 128) 0 ≡ k

-- r is the lowest of their sets with the mark 1
pub record LowestAt (b cells : List ℕ) (lo hi r : ℕ) : Type 0 where
  pub hit : (m : ℕ) × (lo ≤ m) × (m < hi) × (in_set b m ≡ r) × (get_or cells (in_set b m * 128) 0 ≡ 1)
  pub least : (m : ℕ) → lo ≤ m → m < hi → get_or cells (in_set b m * 128) 0 ≡ 1 → r ≤ in_set b m

-- or none of them has it
abbrev pub LowestIn : (b cells : List ℕ) (lo hi : ℕ) → Option ℕ → Type 0
LowestIn b cells lo hi (Some r) = LowestAt b cells lo hi r
LowestIn b cells lo hi None = (m : ℕ) → lo ≤ m → m < hi → get_or cells (in_set b m * 128) 0 ≢ 1
