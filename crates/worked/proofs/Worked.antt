-- E1 to E10 of 01, as one table of cases with a single claim: each script prints what 01 says, computed by the checker on the real
-- calls. Assumes nothing.
use mathlib.Core.Path.{◌≡◌, refl}
use mathlib.Core.List.{map}
use Rattle.laws.specs.Choice.{when, ◌and◌, ◌or◌}
use Rattle.laws.specs.Loops.{times, all_below, any_below}
use Rattle.symbols.specs.Symbol.{terminal, nonterminal, on_right, all_on_right, rule_answer}
use Rattle.theory.specs.Calls.{all_tokens, pools_in_range}
use Rattle.worked.specs.Script.{run}
use Rattle.worked.specs.Cases.{cases}

pub worked : map (λ c. run c.script) cases ≡ map (λ c. c.prints) cases
unfolding when ◌and◌ ◌or◌ times all_below any_below terminal nonterminal on_right all_on_right rule_answer all_tokens pools_in_range
worked = refl
