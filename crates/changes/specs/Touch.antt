-- What a change of a rule does to the numbers of the sets, step by step as the code does it. Assumes nothing.
use Rattle.std.specs.Prelude.{List, ℕ, zero, suc, ◌+◌, ◌*◌, eqb}
use Rattle.laws.specs.Choice.{when}
use Rattle.laws.specs.Loops.{up_to}
use Rattle.symbols.specs.Symbol.{START}
use Rattle.kernels.specs.Write.{write_words}
use Rattle.table.specs.Layout.{Sets, sets, sets_in, cell}
use Rattle.table.specs.Start.{put_starts}

-- the cells of a set that is unexpanded: mark 1, no target
abbrev pub bare_row : ℕ → ℕ
bare_row zero = 1
bare_row (suc k) = 0

-- set s becomes unexpanded: its kernel stays, its row is bare, its reductions are zero
unfoldable pub unexpand : ℕ → Sets → Sets
unexpand s x = sets (write_words x.cells (s * 128) bare_row 128) (write_words x.words (s * 18 + 16) (λ k. 0) 2)

-- the same where it has a transition on `left`
unfoldable pub unexpand_if : ℕ → ℕ → Sets → Sets
unexpand_if left s x = when (eqb (cell x s left) 0) x (unexpand s x)

unfoldable pub unexpand_all : ℕ → ℕ → Sets → Sets
unexpand_all n left x = up_to n (unexpand_if left) x

-- set 0 becomes unexpanded, with the kernel that the rules give it
unfoldable pub start_again : List ℕ → Sets → Sets
start_again rs x = sets (write_words x.cells 0 bare_row 128) (put_starts rs (write_words x.words 0 (λ k. 0) 18))

-- what a change of a rule of `left` touches
unfoldable pub touched_by : List ℕ → ℕ → Sets → Sets
touched_by rs left x = when (eqb left START) (start_again rs x) (unexpand_all (sets_in rs) left x)
