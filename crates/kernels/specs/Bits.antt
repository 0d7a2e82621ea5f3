-- A walk over the bits that are set. Assumes nothing.
use Rattle.std.specs.Prelude.{◌≡◌, Option, Some, List, ℕ, ◌+◌}
use Rattle.kernels.specs.Kernel.{Next}
use Rattle.kernels.specs.declared.bits.Bits.{Bits}

-- the walk b goes over the n words of ws from `at` on
pub record Over (ws : List ℕ) (at n : ℕ) (b : Bits) : Type 0 where
  pub words : b.words.now ≡ ws
  pub place : b.at ≡ at
  pub count : b.n ≡ n

-- a turn of the walk b: the next bit that it has not passed, if there is one, and the walk c, which has
pub record GivesBit (b : Bits) (r : Option ℕ) (c : Bits) : Type 0 where
  pub gives : Next b.words.now b.at b.n b.from r
  pub over : Over b.words.now b.at b.n c
  pub on : (i : ℕ) → r ≡ Some i → c.from ≡ i + 1
