-- Set numbers on the lent slices: which sets are free, and a kernel's set found or made. Assumes nothing.
use Rattle.std.specs.Prelude.{List, [], ◌≡◌, ◌≢◌, ℕ, pred, ◌+◌, ◌*◌, ◌≤◌, ◌<◌, length, get_or, set}
use Rattle.laws.specs.Lists.{firstIn, up_from}
use Rattle.kernels.specs.Write.{write_words}
use Rattle.theory.specs.Table.{Item, SetPlace, same_items}
use Rattle.theory.specs.Expansion.{found, set_with, lowest_free}
use Rattle.table.specs.Layout.{Sets, sets_in, rules_in, kernel_seen, view_sets}
use Rattle.table.specs.Laid.{LaidSet, Within}

-- set t unexpanded, with the kernel of the key
unfoldable pub made : ℕ → List ℕ → Sets → Sets
made t key x = record { cells = set x.cells (t * 128) 1; words = write_words x.words (t * 18) (λ k. get_or key (0 + k) 0) 16 }

-- the sets' slices are laid out for n rule places
pub record LaidSets (S n : ℕ) (x : Sets) : Type 0 where
  pub few_rules : n ≤ 128
  pub cells : S * 128 ≤ length x.cells
  pub words : S * 18 ≤ length x.words
  pub each : (s : ℕ) → s < S → LaidSet n x s

-- the sets' slices y hold the sets ss, and beyond the pool are as x was
pub record SetsBecome (S n : ℕ) (x y : Sets) (ss : List SetPlace) : Type 0 where
  pub laid : LaidSets S n y
  pub seen : view_sets S n y ≡ ss
  pub cells : (k : ℕ) → S * 128 ≤ k → get_or y.cells k 0 ≡ get_or x.cells k 0
  pub words : (k : ℕ) → S * 18 ≤ k → get_or y.words k 0 ≡ get_or x.words k 0

-- the first set but 0 whose words have the kernel k, or 0
unfoldable pub kernel_at : (S n : ℕ) (ws : List ℕ) (k : List Item) → ℕ
kernel_at S n ws k = firstIn (λ s. same_items (kernel_seen n ws (s * 18)) k) 0 (up_from 1 (pred S))

-- the words of a table's sets hold kernels of the table's rule places
pub record HoldKernels (rs ws : List ℕ) : Type 0 where
  pub words : sets_in rs * 18 ≤ length ws
  pub each : (s : ℕ) → s < sets_in rs → Within (rules_in rs) ws (s * 18)

-- .. and so does the key
pub record Sought (rs ws key : List ℕ) : Type 0 where
  pub sizes : 2 ≤ length rs
  pub few_rules : rules_in rs ≤ 128
  pub kernels : HoldKernels rs ws
  pub key_long : 16 ≤ length key
  pub key_within : Within (rules_in rs) key 0

-- the sets are laid out, the key's kernel is not empty, and there is room for it: some set has it, or a set is free
pub record Asked (rs : List ℕ) (x : Sets) (key : List ℕ) : Type 0 where
  pub sizes : 2 ≤ length rs
  pub some_sets : 1 ≤ sets_in rs
  pub few_sets : sets_in rs ≤ 255
  pub laid : LaidSets (sets_in rs) (rules_in rs) x
  pub key_long : 16 ≤ length key
  pub key_within : Within (rules_in rs) key 0
  pub some : kernel_seen (rules_in rs) key 0 ≢ []
  pub room : set_with (view_sets (sets_in rs) (rules_in rs) x) (kernel_seen (rules_in rs) key 0) ≡ 0
      → lowest_free (view_sets (sets_in rs) (rules_in rs) x) ≢ 0

-- the model's answer: the set's number, and the sets with it
pub record Answered (S n : ℕ) (x y : Sets) (k : List Item) (r : ℕ) : Type 0 where
  pub at : r ≡ (found (view_sets S n x) k).at
  pub sets : SetsBecome S n x y (found (view_sets S n x) k).sets
