-- The searches over the rules, as the code makes them. Assumes nothing.
use Rattle.std.specs.Prelude.{◌≡◌, Bool, List, ℕ, ◌<◌, Option, Some, None, eqb}
use Rattle.laws.specs.Choice.{◌and◌}
use Rattle.laws.specs.Lists.{firstIn, up_from}
use Rattle.symbols.specs.Rule.{same_rule}
use Rattle.symbols.specs.declared.rule.Rule.{Rule}
use Rattle.table.specs.Layout.{rule_number}
use Rattle.table.specs.Write.{rule_in}

-- rule r has that state
unfoldable pub has_state : List ℕ → ℕ → ℕ → Bool
has_state rs state r = eqb (rule_number rs r 0) state

-- rule r is x, in that state
unfoldable pub is_at : List ℕ → ℕ → Rule → ℕ → Bool
is_at rs state x r = has_state rs state r and same_rule (rule_in rs r) x

-- the lowest number below n that passes, or n
abbrev pub lowest : ℕ → (ℕ → Bool) → ℕ
lowest n f = firstIn f n (up_from 0 n)

-- what a search has found: the lowest number below n that passes, if one does
abbrev pub Lowest : ℕ → (ℕ → Bool) → Option ℕ → Type 0
Lowest n f None = lowest n f ≡ n
Lowest n f (Some r) = (r < n) × (r ≡ lowest n f)
