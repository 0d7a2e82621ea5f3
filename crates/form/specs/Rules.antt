-- The form's clauses on rules, as tests of the slice of rules. Assumes nothing.
use Rattle.std.specs.Prelude.{Bool, true, not, List, ℕ, eqb, leb}
use Rattle.laws.specs.Choice.{◌and◌, when}
use Rattle.laws.specs.Loops.{all_below}
use Rattle.symbols.specs.Rule.{well_formed, same_rule}
use Rattle.symbols.specs.Check.{no_rule}
use Rattle.table.specs.Layout.{rules_in, rule_number}
use Rattle.table.specs.Write.{rule_in}

-- "each current or withdrawn number holds a rule as above", "unused places zero"
unfoldable pub rule_fits : List ℕ → ℕ → Bool
rule_fits rs r = when (eqb (rule_number rs r 0) 0) (same_rule (rule_in rs r) no_rule) (leb (rule_number rs r 0) 2 and well_formed (rule_in rs r))

unfoldable pub rules_fit : List ℕ → Bool
rules_fit rs = all_below (rules_in rs) (rule_fits rs)

-- rule q is not rule r
unfoldable pub differs : List ℕ → ℕ → ℕ → Bool
differs rs r q = not (same_rule (rule_in rs q) (rule_in rs r))

-- no rule before rule r is equal to it, unless r is free
unfoldable pub rule_alone : List ℕ → ℕ → Bool
rule_alone rs r = when (eqb (rule_number rs r 0) 0) true (all_below r (differs rs r))

-- "no two current or withdrawn rules equal"
unfoldable pub rules_differ : List ℕ → Bool
rules_differ rs = all_below (rules_in rs) (rule_alone rs)
