-- Collection's second half on the numbers: what is freed becomes zero. Assumes nothing.
use Rattle.std.specs.Prelude.{List, ℕ, ◌+◌, ◌*◌, eqb}
use Rattle.laws.specs.Choice.{when}
use Rattle.kernels.specs.Kernel.{holds}
use Rattle.kernels.specs.Write.{write_words}
use Rattle.table.specs.Layout.{Sets, rule_number}

-- set s is free
unfoldable pub free_row : ℕ → Sets → Sets
free_row s x = record { cells = write_words x.cells (s * 128) (λ k. 0) 128; words = write_words x.words (s * 18) (λ k. 0) 18 }

-- set s is free unless it is marked
unfoldable pub free_unmarked : List ℕ → ℕ → Sets → Sets
free_unmarked marks s x = when (holds marks 0 s) x (free_row s x)

-- rule number r is free if it was withdrawn
unfoldable pub free_withdrawn : ℕ → List ℕ → List ℕ
free_withdrawn r rs = when (eqb (rule_number rs r 0) 2) (write_words rs (2 + r * 10) (λ k. 0) 10) rs
