-- What a walk over a closure puts into the words that it makes, at each item, and what the words hold at its end. Assumes nothing.
use Rattle.std.specs.Prelude.{◌≡◌, ◌↔◌, Bool, true, not, ℕ, ◌+◌, ◌/◌, eqb}
use mathlib.Core.List.{List, [], Memᴰ as In}
use Rattle.laws.specs.Choice.{◌and◌, when}
use Rattle.symbols.specs.Symbol.{START}
use Rattle.kernels.specs.Kernel.{has, put_if}
use Rattle.theory.specs.Table.{RulePlace, Item, rule_at}
use Rattle.theory.specs.Expansion.{symbols, filled}
use Rattle.closure.specs.Item.{after_at, ends_at}
use Rattle.closure.specs.declared.walks.Completed.{Completed}

-- ---- at item i

-- the symbol after its dot
abbrev pub put_after : List RulePlace → ℕ → List ℕ → List ℕ
put_after rs i ws = put_if (not (eqb (after_at rs i) 0)) ws (after_at rs i)

-- the item with its dot moved over x
abbrev pub put_moved : List RulePlace → ℕ → ℕ → List ℕ → List ℕ
put_moved rs x i ws = put_if (eqb (after_at rs i) x) ws (i + 1)

-- its rule, where the item is completed
abbrev pub is_of_start : List RulePlace → ℕ → Bool
is_of_start rs i = eqb (rule_at rs (i / 8)).left START

abbrev pub put_reduction : List RulePlace → ℕ → List ℕ → List ℕ
put_reduction rs i ws = put_if (ends_at rs i and not (is_of_start rs i)) ws (i / 8)

abbrev pub accepts_too : List RulePlace → ℕ → Bool → Bool
accepts_too rs i b = when (ends_at rs i and is_of_start rs i) true b

-- ---- at the end

-- "each symbol X after a dot in the closure": bit x is set exactly for these
abbrev pub HoldsSymbols : List ℕ → List RulePlace → List Item → Type 0
HoldsSymbols ws rs c = (x : ℕ) → (has ws 0 x ≡ 1) ↔ In x (symbols rs c)

-- "Completed items of START set the accept mark. Other completed items are the reductions.": bit r is set exactly for the
-- reductions that the expanded set gets, and so is its mark
pub record HoldsCompleted (rs : List RulePlace) (c : List Item) (r : Completed) : Type 0 where
  pub reductions : (i : ℕ) → (has r.reductions 0 i ≡ 1) ↔ In i (filled rs c c []).reductions
  pub accepts : r.accepts ≡ (filled rs c c []).accepts
