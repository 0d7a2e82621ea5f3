-- Reach on the cells alone, and the marks and the queue that find it. Assumes nothing.
use Rattle.std.specs.Prelude.{◌≡◌, ◌↔◌, ◌⊎◌, List, ℕ, ◌+◌, ◌*◌, ◌≤◌, ◌<◌, length, get_or}
use Rattle.kernels.specs.Kernel.{has}
use Rattle.kernels.specs.Walk.{how_many}
use Rattle.theory.specs.Table.{Reach}
use Rattle.table.specs.Layout.{sets_in, mem, view}

-- cell k of set s's 128: its mark, then its target on each symbol
abbrev pub cell_of : List ℕ → ℕ → ℕ → ℕ
cell_of cells s k = get_or cells (s * 128 + k) 0

-- row s is there, and it is bare where the set is not expanded
pub record Row (cells : List ℕ) (s : ℕ) : Type 0 where
  pub long : s * 128 + 128 ≤ length cells
  pub bare : cell_of cells s 0 < 2 → (x : ℕ) → 1 ≤ x → x < 128 → cell_of cells s x ≡ 0

-- the rows of S sets, whose targets are among them
pub record Rows (S : ℕ) (cells : List ℕ) : Type 0 where
  pub some : 1 ≤ S
  pub few : S ≤ 255
  pub row : (s : ℕ) → s < S → Row cells s
  pub targets : (s x : ℕ) → s < S → 1 ≤ x → x < 128 → cell_of cells s x < S

-- "Set 0, and every target of an expanded reachable set": a bit is set for these and no others, in whatever table has S sets with
-- these cells
pub record Marks (S : ℕ) (cells marks : List ℕ) : Type 0 where
  pub exact : (rs ws : List ℕ) → sets_in rs ≡ S → (s : ℕ) → (has marks 0 s ≡ 1) ↔ Reach (view (mem rs cells ws)) s

-- ---- while it is found

-- the sets that are marked are the first n of the queue, each there once
pub record Queued (marks queue : List ℕ) (n : ℕ) : Type 0 where
  pub start : has marks 0 0 ≡ 1
  pub room : 256 ≤ length queue
  pub once : n ≡ how_many 256 (has marks 0)
  pub marked : (j : ℕ) → j < n → has marks 0 (get_or queue j 0) ≡ 1
  pub listed : (s : ℕ) → has marks 0 s ≡ 1 → (j : ℕ) × (j < n) × (get_or queue j 0 ≡ s)

-- f 0, .., f (k - 1), and nothing else, are marked and queued besides, behind what stood in the queue
pub record Adds (k : ℕ) (f : ℕ → ℕ) (marks queue : List ℕ) (n : ℕ) (marks' queue' : List ℕ) (n' : ℕ) : Type 0 where
  pub queued : Queued marks' queue' n'
  pub more : n ≤ n'
  pub kept : (j : ℕ) → j < n → get_or queue' j 0 ≡ get_or queue j 0
  pub there : (j : ℕ) → j < k → has marks' 0 (f j) ≡ 1
  pub only : (s : ℕ) → has marks' 0 s ≡ 1 → (has marks 0 s ≡ 1) ⊎ ((j : ℕ) × (j < k) × (f j ≡ s))
