-- The same texts by the numbers in which the table is kept, as the code walks them. Assumes nothing.
use Rattle.std.specs.Prelude.{Bool, not, List, [], ◌∷◌, ◌++◌, ℕ, ◌+◌, ◌-◌, ◌*◌, ◌/◌, ◌%◌, eqb, ltb, leb, get_or}
use Rattle.laws.specs.Choice.{when}
use Rattle.laws.specs.Lists.{joinMap, keep, up_from}
use Rattle.kernels.specs.Kernel.{holds}
use Rattle.theory.specs.Table.{item}
use Rattle.table.specs.Layout.{transition}
use Rattle.text.specs.Text.{SPACE, NEWLINE, decimal}
use Rattle.listing.specs.Printed.{set_text, item_text, transition_text, accept_text}

-- the texts of the numbers from a on and below b that pass, one after the other
unfoldable pub listed : (ℕ → Bool) → (ℕ → List ℕ) → ℕ → ℕ → List ℕ
listed p f a b = joinMap f (keep p (up_from a (b - a)))

-- cell k of set s
abbrev pub cell_at : List ℕ → ℕ → ℕ → ℕ
cell_at cs s k = get_or cs (s * 128 + k) 0

-- a set in use, by its mark
abbrev pub used : List ℕ → ℕ → Bool
used cs s = ltb 0 (cell_at cs s 0)

unfoldable pub entry_of : List ℕ → ℕ → List ℕ
entry_of cs s = set_text s (leb 2 (cell_at cs s 0))

-- item i, by its bit
unfoldable pub item_of : ℕ → List ℕ
item_of i = item_text (item (i / 8) (i % 8))

-- a transition, by its target
abbrev pub leads : List ℕ → ℕ → ℕ → Bool
leads cs s x = not (eqb (cell_at cs s x) 0)

unfoldable pub transition_of : List ℕ → ℕ → ℕ → List ℕ
transition_of cs s x = transition_text (transition x (cell_at cs s x))

unfoldable pub reduction_of : ℕ → List ℕ
reduction_of r = SPACE ∷ decimal r

-- the contents line of so many sets
unfoldable pub contents_of : List ℕ → ℕ → List ℕ
contents_of cs n = 67 ∷ (listed (used cs) (entry_of cs) 0 n ++ (NEWLINE ∷ []))

-- a set's transitions, reductions and accept mark, each after its letter
unfoldable pub expanded_of : List ℕ → List ℕ → ℕ → List ℕ
expanded_of cs ws s =
    SPACE ∷ 84 ∷ (listed (leads cs s) (transition_of cs s) 1 128
    ++ (SPACE ∷ 82 ∷ (listed (holds ws (s * 18 + 16)) reduction_of 0 128
    ++ accept_text (eqb (cell_at cs s 0) 3))))

-- a set's body
unfoldable pub body_of : List ℕ → List ℕ → ℕ → List ℕ
body_of cs ws s =
    83 ∷ SPACE ∷ (decimal s
    ++ (SPACE ∷ 75 ∷ (listed (holds ws (s * 18)) item_of 0 1024
    ++ (when (leb 2 (cell_at cs s 0)) (expanded_of cs ws s) [] ++ (NEWLINE ∷ [])))))
