-- The graph of links in one lent buffer, six numbers to a record: where each number stands, and the links that they hold. Record k
-- holds link k, from 1: its source node, the node under it, and the link of the same source before it, 0 where there is none. Record
-- n holds node n, from 0, the root: its position, its set, and its last link. `at` gives for each set its node at this position.
-- Assumes nothing.
use Rattle.std.specs.Prelude.{List, [], ◌∷◌, ℕ, zero, suc, ◌+◌, ◌*◌, get_or, set}
use Rattle.theory.specs.Parse.{Link, link}
use Rattle.links.specs.declared.Counts.{Counts}

-- the numbers of the link buffer that a pool takes: the root's record, and one for each link
abbrev pub numbers_for : ℕ → ℕ
numbers_for pool = (pool + 1) * 6

abbrev pub source : List ℕ → ℕ → ℕ
source b k = get_or b (k * 6) 0

abbrev pub under : List ℕ → ℕ → ℕ
under b k = get_or b (k * 6 + 1) 0

abbrev pub previous : List ℕ → ℕ → ℕ
previous b k = get_or b (k * 6 + 2) 0

abbrev pub position : List ℕ → ℕ → ℕ
position b n = get_or b (n * 6 + 3) 0

abbrev pub in_set : List ℕ → ℕ → ℕ
in_set b n = get_or b (n * 6 + 4) 0

abbrev pub last_link : List ℕ → ℕ → ℕ
last_link b n = get_or b (n * 6 + 5) 0

-- the buffer and the map, with the counts of nodes and links
pub record Graph : Type 0 where
  pub buf : List ℕ
  pub at : List ℕ
  pub nodes : ℕ
  pub links : ℕ
  pub over : ℕ

abbrev pub counts : ℕ → ℕ → ℕ → Counts
counts n l o = record { nodes = n; links = l; over = o }

abbrev pub graph : List ℕ → List ℕ → Counts → Graph
graph b a c = record { buf = b; at = a; nodes = c.nodes; links = c.links; over = c.over }

-- ---- the links that the buffer holds

abbrev pub link_of : List ℕ → ℕ → Link
link_of b k = link (position b (source b k)) (in_set b (source b k)) (position b (under b k)) (in_set b (under b k))

-- the newest first
unfoldable pub links_in : List ℕ → ℕ → List Link
links_in b zero = []
links_in b (suc k) = link_of b (suc k) ∷ links_in b k

abbrev pub links_of : Graph → List Link
links_of x = links_in x.buf x.links

-- ---- what is written

-- node n, of set s at position p, with no link yet
unfoldable pub put_node : List ℕ → ℕ → ℕ → ℕ → List ℕ
put_node b n p s = set (set (set b (n * 6 + 3) p) (n * 6 + 4) s) (n * 6 + 5) 0

-- link k from node n to node m
unfoldable pub put_link : List ℕ → ℕ → ℕ → ℕ → List ℕ
put_link b n m k = set (set (set (set b (k * 6) n) (k * 6 + 1) m) (k * 6 + 2) (last_link b n)) (n * 6 + 5) k
