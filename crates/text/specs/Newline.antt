-- Where a byte stands in a list. Assumes nothing.
use Rattle.std.specs.Prelude.{Bool, true, false, List, [], ◌∷◌, ℕ, suc, take, drop, eqb}

-- from place `at` up to place n of l
unfoldable pub slice : ℕ → ℕ → List ℕ → List ℕ
slice at n l = drop at (take n l)

-- one place further, unless the byte is here
unfoldable pub index_after : Bool → ℕ → ℕ
index_after true k = 0
index_after false k = suc k

-- how many bytes stand before the first b of l: all of them if it has none
unfoldable pub index_of : ℕ → List ℕ → ℕ
index_of b [] = 0
index_of b (x ∷ l) = index_after (eqb x b) (index_of b l)
