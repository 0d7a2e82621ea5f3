-- A rule's ten numbers read as a record and written anew. Assumes nothing.
use Rattle.std.specs.Prelude.{List, ◌∷◌, ℕ, ◌+◌, ◌*◌, get_or}
use Rattle.laws.specs.Loops.{tab}
use Rattle.symbols.specs.Rule.{symbol, place}
use Rattle.symbols.specs.declared.rule.Rule.{Rule}
use Rattle.kernels.specs.Write.{write_words}
use Rattle.table.specs.Layout.{rule_number}

-- rule r as a record: "left symbol, length and seven right places"
unfoldable pub rule_in : List ℕ → ℕ → Rule
rule_in rs r = record { left = symbol (rule_number rs r 1); len = rule_number rs r 2; right = tab 7 (λ d. symbol (rule_number rs r (3 + d))) }

-- the ten numbers of the rule x in a state
unfoldable pub ten_of : ℕ → Rule → ℕ → ℕ
ten_of state x k = get_or (state ∷ x.left.0 ∷ x.len ∷ tab 7 (place x)) k 0

-- the numbers with rule r written anew
unfoldable pub put_rule : List ℕ → ℕ → ℕ → Rule → List ℕ
put_rule rs r state x = write_words rs (2 + r * 10) (ten_of state x) 10
