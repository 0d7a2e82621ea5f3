-- A part of a list written anew: words here, the cells of a table above. Assumes nothing.
use Rattle.std.specs.Prelude.{List, ℕ, ◌+◌, set}
use Rattle.laws.specs.Loops.{up_to}

-- the n places from `at` on set to f 0, f 1, ..
unfoldable pub write_words : List ℕ → ℕ → (ℕ → ℕ) → ℕ → List ℕ
write_words ws at f n = up_to n (λ k l. set l (at + k) (f k)) ws
