-- What always holds of the buffer, and what one more link changes. Assumes nothing.
use Rattle.std.specs.Prelude.{◌≡◌, ◌≢◌, ◌⊎◌, ℕ, ◌+◌, ◌*◌, ◌≤◌, ◌<◌, length, get_or, Option, Some, None}
use mathlib.Core.List.{List, Memᴰ as In}
use Rattle.theory.specs.Parse.{Link, link}
use Rattle.links.specs.declared.Here.{Here}
use Rattle.links.specs.Records.{source, under, previous, position, in_set, last_link, Graph, links_of}

-- c is the last link before d whose source is n, 0 where there is none
pub record Last (b : List ℕ) (n d c : ℕ) : Type 0 where
  pub below : c < d
  pub is : c ≢ 0 → source b c ≡ n
  pub after : (k : ℕ) → c < k → k < d → source b k ≢ n

-- one of the first l links goes from n to m
pub record Edge (b : List ℕ) (l n m : ℕ) : Type 0 where
  pub k : ℕ
  pub some : 1 ≤ k
  pub inside : k ≤ l
  pub from : source b k ≡ n
  pub to : under b k ≡ m

-- what a walk along the chains of links asks for
pub record Chained (b : List ℕ) (nodes links : ℕ) : Type 0 where
  pub link_room : links * 6 + 5 < length b
  pub node_room : nodes * 6 ≤ length b
  pub few : nodes ≤ 4097
  pub under_in : (k : ℕ) → 1 ≤ k → k ≤ links → under b k < nodes
  pub chain : (k : ℕ) → 1 ≤ k → k ≤ links → Last b (source b k) k (previous b k)
  pub lasts : (n : ℕ) → n < nodes → Last b n (links + 1) (last_link b n)

-- what holds also between a node's making and its first link
pub record Core (h : Here) (x : Graph) : Type 0 where
  pub room : (h.size + 1) * 6 ≤ length x.buf
  pub few : h.size ≤ 4096
  pub wide : length x.at ≡ 256
  pub few_sets : h.sets ≤ 255
  pub low : h.position ≤ 255
  pub fits : x.links ≤ h.size
  pub some : 1 ≤ x.nodes
  pub node_room : x.nodes ≤ h.size + 1
  pub begun : h.start ≤ x.nodes
  pub source_in : (k : ℕ) → 1 ≤ k → k ≤ x.links → source x.buf k < x.nodes
  pub under_in : (k : ℕ) → 1 ≤ k → k ≤ x.links → under x.buf k < x.nodes
  pub chain : (k : ℕ) → 1 ≤ k → k ≤ x.links → Last x.buf (source x.buf k) k (previous x.buf k)
  pub lasts : (n : ℕ) → n < x.nodes → Last x.buf n (x.links + 1) (last_link x.buf n)
  -- "each link counts once"
  pub once : (j k : ℕ) → 1 ≤ j → j < k → k ≤ x.links → source x.buf j ≡ source x.buf k → under x.buf j ≡ under x.buf k → ⊥
  -- "the root is position 0, set 0"
  pub root_position : position x.buf 0 ≡ 0
  pub root_set : in_set x.buf 0 ≡ 0
  -- the nodes of this position begin at `start`, and `at` has each
  pub here : (n : ℕ) → n < x.nodes → h.start ≤ n → position x.buf n ≡ h.position
  pub before : (n : ℕ) → n < x.nodes → n < h.start → position x.buf n < h.position
  pub found : (n : ℕ) → n < x.nodes → h.start ≤ n → get_or x.at (in_set x.buf n) 0 ≡ n
  pub in_sets : (n : ℕ) → n < x.nodes → in_set x.buf n < h.sets
  pub unique : (m n : ℕ) → m < x.nodes → n < x.nodes → position x.buf m ≡ position x.buf n → in_set x.buf m ≡ in_set x.buf n → m ≡ n

-- and each node but the root has a link
pub record Held (h : Here) (x : Graph) : Type 0 where
  pub core : Core h x
  pub few_nodes : x.nodes ≤ x.links + 1
  pub owned : (n : ℕ) → 1 ≤ n → n < x.nodes → last_link x.buf n ≢ 0

-- as many nodes more as links more
abbrev pub Even : Graph → Graph → Type 0
Even x y = y.nodes + x.links ≡ x.nodes + y.links

-- the second graph has all that the first has, at the same numbers; and is the same where it has no link more
pub record Grown (x y : Graph) : Type 0 where
  pub links : x.links ≤ y.links
  pub nodes : x.nodes ≤ y.nodes
  pub over : y.over ≡ 0 → x.over ≡ 0
  pub position_same : (n : ℕ) → n < x.nodes → position y.buf n ≡ position x.buf n
  pub set_same : (n : ℕ) → n < x.nodes → in_set y.buf n ≡ in_set x.buf n
  pub source_same : (k : ℕ) → 1 ≤ k → k ≤ x.links → source y.buf k ≡ source x.buf k
  pub under_same : (k : ℕ) → 1 ≤ k → k ≤ x.links → under y.buf k ≡ under x.buf k
  pub same_buf : y.links ≡ x.links → y.buf ≡ x.buf
  pub same_nodes : y.links ≡ x.links → y.nodes ≡ x.nodes
  -- no more nodes than links more; and where as many, each new link has a new source
  pub pace : y.nodes + x.links ≤ x.nodes + y.links
  pub calm : Even x y → (k : ℕ) → x.links < k → k ≤ y.links → x.nodes ≤ source y.buf k

-- `at` has each node from `start` on
abbrev pub FindsAt : List ℕ → List ℕ → ℕ → ℕ → Type 0
FindsAt b at start nodes = (n : ℕ) → n < nodes → start ≤ n → get_or at (in_set b n) 0 ≡ n

-- r is the node of set s at this position, or none where there is none
abbrev pub NodeOf : List ℕ → (start nodes s : ℕ) → Option ℕ → Type 0
NodeOf b start nodes s (Some r) = (r < nodes) × ((start ≤ r) × (in_set b r ≡ s))
NodeOf b start nodes s None = (n : ℕ) → start ≤ n → n < nodes → in_set b n ≢ s

-- what adding the link from set s at this position to node m leaves
pub record Adds (h : Here) (s m : ℕ) (x y : Graph) : Type 0 where
  pub held : Held h y
  pub grown : Grown x y
  pub there : y.over ≡ 0 → In (link h.position s (position x.buf m) (in_set x.buf m)) (links_of y)
  pub only : (l : Link) → In l (links_of y) → In l (links_of x) ⊎ (l ≡ link h.position s (position x.buf m) (in_set x.buf m))
  pub full : y.over ≢ 0 → (x.over ≢ 0) ⊎ ((y.links ≡ h.size) × (In (link h.position s (position x.buf m) (in_set x.buf m)) (links_of y) → ⊥))

-- the first n numbers zero, the others as they were
pub record Cleared (n : ℕ) (b c : List ℕ) : Type 0 where
  pub low : (i : ℕ) → i < n → get_or c i 0 ≡ 0
  pub high : (i : ℕ) → n ≤ i → get_or c i 0 ≡ get_or b i 0
