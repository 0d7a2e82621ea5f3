-- What a step does: W are the links that it is to bring. Assumes nothing.
use Rattle.std.specs.Prelude.{◌≡◌, ◌≢◌, ◌⊎◌}
use mathlib.Core.List.{List, Memᴰ as In}
use Rattle.theory.specs.Table.{Table}
use Rattle.theory.specs.Parse.{Link}
use Rattle.theory.specs.Steps.{Linked}
use Rattle.links.specs.declared.Here.{Here}
use Rattle.links.specs.Records.{Graph, links_of}
use Rattle.links.specs.Held.{Held, Grown, Even}

-- y has all that x has, and W, and nothing else; or a link of W did not fit
pub record Does (h : Here) (W : Link → Type 0) (x y : Graph) : Type 0 where
  pub held : Held h y
  pub grown : Grown x y
  pub there : y.over ≡ 0 → (l : Link) → W l → In l (links_of y)
  pub only : (l : Link) → In l (links_of y) → In l (links_of x) ⊎ W l
  pub full : y.over ≢ 0 → (x.over ≢ 0) ⊎ ((y.links ≡ h.size) × (l : Link) × W l × (In l (links_of y) → ⊥))

-- the links held are among those that reductions here make of the links ls; where one did not fit, the pool is full and there is a further one
pub record Within (t : Table) (h : Here) (ls : List Link) (x : Graph) : Type 0 where
  pub below : (l : Link) → In l (links_of x) → Linked t ls h.position l
  pub full : x.over ≢ 0 → (x.links ≡ h.size) × (l : Link) × Linked t ls h.position l × (In l (links_of x) → ⊥)

-- a step of saturation: where each link more came with its node, W is there; and nothing is there but what reductions make
pub record Works (t : Table) (h : Here) (W : Graph → Link → Type 0) (x y : Graph) : Type 0 where
  pub held : Held h y
  pub grown : Grown x y
  pub there : y.over ≡ 0 → Even x y → (l : Link) → W y l → In l (links_of y)
  pub keeps : (ls : List Link) → Within t h ls x → Within t h ls y
