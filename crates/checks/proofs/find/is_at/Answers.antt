-- `is_at` meets its contract: both tests, in the definition's order. Assumes nothing.
use mathlib.Core.Path.{◌≡◌}
use native.Mathlib.Omega.{arith}
use lib.ListN.{length}
use borrow.Author.Rules.{rules}
use Rattle.std.proofs.lemmas.Grind.{common_steps}
use Rattle.laws.specs.Choice.{◌and◌}
use Rattle.symbols.proofs.Rules.{equal_is_same}
use Rattle.table.specs.Write.{rule_in}
use Rattle.table.proofs.RuleNumbers.{in_seven}
use Rattle.checks.specs.Find.{has_state, is_at}
use Rattle.checks.proofs.find.is_at.Goals as goal

pub returns-then-state : goal.returns-then-state
unfolding is_at has_state ◌and◌
returns-then-state c =
    let seven : length c.args.x.right ≡ 7 = search rules in
    grind (arith, common_steps, equal_is_same (rule_in c.args.rules.now c.args.r) c.args.x (in_seven _ _) seven)

pub returns-else-state : goal.returns-else-state
unfolding is_at has_state ◌and◌
returns-else-state c = grind (arith, common_steps)
