-- The nodes that paths of so many links lead to. Assumes nothing.
use Rattle.std.specs.Prelude.{◌⊎◌, List, ℕ, zero, suc, ◌<◌}
use Rattle.links.specs.Held.{Edge}
use Rattle.levels.specs.Lists.{On, Listed, Made, OtherSame, listed}

-- the nodes under node n put onto the list
pub record Spread (b : List ℕ) (links side nodes n : ℕ) (w : List ℕ) (c : ℕ) (w' : List ℕ) (c' : ℕ) : Type 0 where
  pub made : Made w' side c' nodes
  pub old : (m : ℕ) → On w side c m → On w' side c' m
  pub new : (m : ℕ) → Edge b links n m → On w' side c' m
  pub only : (m : ℕ) → On w' side c' m → On w side c m ⊎ Edge b links n m
  pub other : OtherSame side w w'

-- the list on the other side has the nodes under those of the list on this side, each once, and nothing else
pub record Under (b : List ℕ) (links nodes : ℕ) (w : List ℕ) (side c : ℕ) (w' : List ℕ) (side' c' : ℕ) : Type 0 where
  pub list : Listed w' side' c' nodes
  pub all : (i m : ℕ) → i < c → Edge b links (listed w side i) m → On w' side' c' m
  pub only : (m : ℕ) → On w' side' c' m → (i : ℕ) × (i < c) × Edge b links (listed w side i) m

-- a path of k links from node n down to a node
pub data Down (b : List ℕ) (links n : ℕ) : ℕ → ℕ → Type 0 where
  stay : Down b links n zero n
  on : {k a m : ℕ} → Down b links n k a → Edge b links a m → Down b links n (suc k) m

-- the list has the ends of these paths, each once, and nothing else
pub record Reached (b : List ℕ) (links nodes n k : ℕ) (w : List ℕ) (side c : ℕ) : Type 0 where
  pub list : Listed w side c nodes
  pub all : (m : ℕ) → Down b links n k m → On w side c m
  pub only : (m : ℕ) → On w side c m → Down b links n k m
