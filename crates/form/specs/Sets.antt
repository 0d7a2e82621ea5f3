-- The form's clauses on sets, as tests of the slices of cells and words. Assumes nothing.
use Rattle.std.specs.Prelude.{Bool, true, not, List, ℕ, ◌+◌, ◌*◌, eqb, ltb, leb, get_or}
use Rattle.laws.specs.Choice.{◌and◌, when}
use Rattle.laws.specs.Loops.{all_below}
use Rattle.kernels.specs.Kernel.{same, within, empty}
use Rattle.table.specs.Layout.{Sets, cell}

-- the n numbers from `at` on are zero
unfoldable pub zeros : List ℕ → ℕ → ℕ → Bool
zeros xs at n = all_below n (λ k. eqb (get_or xs (at + k) 0) 0)

-- a set that is not expanded has no targets and no reductions, and a free one no items
unfoldable pub bare_fits : Sets → ℕ → Bool
bare_fits x s =
    zeros x.cells (s * 128 + 1) 127 and eqb (get_or x.words (s * 18 + 16) 0) 0 and eqb (get_or x.words (s * 18 + 17) 0) 0
    and when (eqb (cell x s 0) 0) (empty x.words (s * 18)) true

-- "at most one target for each symbol, in use and not 0"; and where only current rules may be named, its kernel names no others
unfoldable pub target_fits : ℕ → Sets → List ℕ → Bool → ℕ → Bool
target_fits S x current only t =
    when (eqb t 0) true
    (ltb t S and not (eqb (cell x t 0) 0) and when only (within x.words (t * 18) current 0 16) true)

unfoldable pub targets_fit : ℕ → Sets → List ℕ → Bool → ℕ → Bool
targets_fit S x current only s = all_below 127 (λ k. target_fits S x current only (cell x s (1 + k)))

unfoldable pub reductions_fit : List ℕ → List ℕ → Bool → ℕ → Bool
reductions_fit ws current only s = when only (within ws (s * 18 + 16) current 16 2) true

-- "where a kernel names current rules only, so do its set's reductions and its targets' kernels"
unfoldable pub expanded_fits : ℕ → Sets → List ℕ → ℕ → Bool
expanded_fits S x current s =
    let only = within x.words (s * 18) current 0 16 in
    reductions_fit x.words current only s and targets_fit S x current only s

-- "items and reductions name current or withdrawn rules, dots within length"
unfoldable pub set_fits : ℕ → Sets → List ℕ → List ℕ → ℕ → Bool
set_fits S x named current s =
    leb (cell x s 0) 3 and within x.words (s * 18) named 0 18
    and when (ltb (cell x s 0) 2) (bare_fits x s) (expanded_fits S x current s)

-- set u is free, or its kernel is not that of s
unfoldable pub kernel_differs : Sets → ℕ → ℕ → Bool
kernel_differs x s u = not (same x.words (u * 18) x.words (s * 18) and not (eqb (cell x u 0) 0))

-- no set before s has its kernel, unless s is free
unfoldable pub kernel_alone : Sets → ℕ → Bool
kernel_alone x s = when (eqb (cell x s 0) 0) true (all_below s (kernel_differs x s))

-- "no two kernels equal"
unfoldable pub kernels_differ : ℕ → Sets → Bool
kernels_differ S x = all_below S (kernel_alone x)
