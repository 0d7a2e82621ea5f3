-- The links that a step is to bring, over the numbers of the buffer and of the table. Assumes nothing.
use Rattle.std.specs.Prelude.{◌≡◌, ◌≢◌, List, ℕ, ◌+◌, ◌*◌, ◌≤◌, ◌<◌, get_or}
use Rattle.kernels.specs.Kernel.{has}
use Rattle.theory.specs.Parse.{Link, link}
use Rattle.table.specs.Layout.{Mem, rule_number, bit_of}
use Rattle.links.specs.Records.{position, in_set, Graph}
use Rattle.levels.specs.Lists.{listed}
use Rattle.levels.specs.Reached.{Down}

-- the targets are sets
abbrev pub Targets : ℕ → List ℕ → Type 0
Targets sets cells = (t x : ℕ) → t < sets → 1 ≤ x → x < 128 → get_or cells (t * 128 + x) 0 < sets

-- "the link from (here, t's target on A) to that node": to node m, on x
pub record ToNode (b cells : List ℕ) (p x m : ℕ) (l : Link) : Type 0 where
  pub s : ℕ
  pub is : get_or cells (in_set b m * 128 + x) 0 ≡ s
  pub some : s ≢ 0
  pub the : l ≡ link p s (position b m) (in_set b m)

-- to the first c nodes of a list
pub record ToList (b cells w : List ℕ) (side p x c : ℕ) (l : Link) : Type 0 where
  pub j : ℕ
  pub low : j < c
  pub to : ToNode b cells p x (listed w side j) l

-- to the nodes from lo, below hi
pub record ToSpan (b cells : List ℕ) (p x lo hi : ℕ) (l : Link) : Type 0 where
  pub m : ℕ
  pub from : lo ≤ m
  pub low : m < hi
  pub to : ToNode b cells p x m l

-- r is the least reduction of set u from `from` on
pub record FirstRule (ws : List ℕ) (u from r : ℕ) : Type 0 where
  pub low : from ≤ r
  pub most : r < 128
  pub none : (j : ℕ) → from ≤ j → j < r → has ws (u * 18) (1024 + j) ≡ 0
  pub hit : has ws (u * 18) (1024 + r) ≡ 1

-- by the reduction r at node n, "each path of k links from it"
pub record ByRule (m : Mem) (b : List ℕ) (links p n r : ℕ) (l : Link) : Type 0 where
  pub end : ℕ
  pub path : Down b links n (rule_number m.rules r 2) end
  pub to : ToNode b m.sets.cells p (rule_number m.rules r 1) end l

-- by the reductions below c at node n
pub record ByNode (m : Mem) (b : List ℕ) (links p n c : ℕ) (l : Link) : Type 0 where
  pub r : ℕ
  pub low : r < c
  pub inside : r < 128
  pub red : bit_of m.sets (in_set b n) (1024 + r) ≡ 1
  pub by : ByRule m b links p n r l

-- at the nodes from start, below c
pub record ByAll (m : Mem) (b : List ℕ) (links p start c : ℕ) (l : Link) : Type 0 where
  pub n : ℕ
  pub from : start ≤ n
  pub low : n < c
  pub by : ByNode m b links p n 128 l

-- the same of a graph
abbrev pub AtRule : Mem → ℕ → ℕ → ℕ → Graph → Link → Type 0
AtRule m p n r x = ByRule m x.buf x.links p n r

abbrev pub AtNode : Mem → ℕ → ℕ → ℕ → Graph → Link → Type 0
AtNode m p n c x = ByNode m x.buf x.links p n c

abbrev pub AtAll : Mem → ℕ → ℕ → ℕ → Graph → Link → Type 0
AtAll m p start c x = ByAll m x.buf x.links p start c

abbrev pub AtEvery : Mem → ℕ → ℕ → Graph → Link → Type 0
AtEvery m p start x = AtAll m p start x.nodes x
