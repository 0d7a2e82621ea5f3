-- The start set's kernel as bits: "every current START rule with dot 0". Assumes nothing.
use Rattle.std.specs.Prelude.{Bool, List, ℕ, ◌*◌, eqb}
use Rattle.laws.specs.Choice.{◌and◌}
use Rattle.laws.specs.Loops.{up_to}
use Rattle.symbols.specs.Symbol.{START}
use Rattle.kernels.specs.Kernel.{put_if}
use Rattle.theory.specs.Table.{CURRENT}
use Rattle.table.specs.Layout.{rules_in, rule_number}

-- rule r is a current rule of START
unfoldable pub is_start : List ℕ → ℕ → Bool
is_start rs r = eqb (rule_number rs r 0) CURRENT and eqb (rule_number rs r 1) START

-- its item with dot 0 put into the words, if it is one
unfoldable pub put_start : List ℕ → ℕ → List ℕ → List ℕ
put_start rs r ws = put_if (is_start rs r) ws (r * 8)

-- those of all rules
unfoldable pub put_starts : List ℕ → List ℕ → List ℕ
put_starts rs ws = up_to (rules_in rs) (put_start rs) ws
