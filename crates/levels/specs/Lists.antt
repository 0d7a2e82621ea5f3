-- Two lists of nodes in one array of 12,291 work numbers, and an index: list 0 from 0 on, list 1 from 4,097 on, and from 8,194 on, for
-- each node, where it stands in the list that is being made (Briggs and Torczon's sparse set). What stands beyond a list's count,
-- and in the index of nodes that are not in it, is left from before and means nothing. Assumes nothing.
use Rattle.std.specs.Prelude.{◌≡◌, ◌≢◌, ◌⊎◌, List, ℕ, ◌+◌, ◌-◌, ◌*◌, ◌<◌, get_or}

-- number i of the list on this side
abbrev pub listed : List ℕ → ℕ → ℕ → ℕ
listed w side i = get_or w (side * 4097 + i) 0

-- node n is among the first c of the list
pub record On (w : List ℕ) (side c n : ℕ) : Type 0 where
  pub i : ℕ
  pub low : i < c
  pub is : listed w side i ≡ n

-- a list of c nodes, each once
pub record Listed (w : List ℕ) (side c nodes : ℕ) : Type 0 where
  pub inside : (i : ℕ) → i < c → listed w side i < nodes
  pub once : (i j : ℕ) → i < j → j < c → listed w side i ≢ listed w side j

-- and the index has each
pub record Made (w : List ℕ) (side c nodes : ℕ) : Type 0 where
  pub list : Listed w side c nodes
  pub indexed : (i : ℕ) → i < c → get_or w (8194 + listed w side i) 0 ≡ i

-- the other list is as it was
abbrev pub OtherSame : ℕ → List ℕ → List ℕ → Type 0
OtherSame side w w' = (i : ℕ) → i < 4097 → listed w' (1 - side) i ≡ listed w (1 - side) i

-- node n put onto the list, unless it is there
pub record Puts (side nodes n : ℕ) (w : List ℕ) (c : ℕ) (w' : List ℕ) (c' : ℕ) : Type 0 where
  pub made : Made w' side c' nodes
  pub old : (m : ℕ) → On w side c m → On w' side c' m
  pub new : On w' side c' n
  pub only : (m : ℕ) → On w' side c' m → On w side c m ⊎ (m ≡ n)
  pub other : OtherSame side w w'
