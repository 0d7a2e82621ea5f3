-- `add_later` meets its contract: collection, the lowest number that it freed, and the rule put there. Assumes nothing.
use mathlib.Core.Path.{subst}
use Rattle.checks.specs.Find.{Lowest}
use Rattle.generator.proofs.Changing.{found-later, later-does}
use Rattle.generator.proofs.change.add_later.Goals as goal

pub unwrap-number-requires : goal.unwrap-number-requires
unwrap-number-requires c = found-later _ _ _ c.collect.ensures c.requires.later_free c.lowest_free.result c.lowest_free.ensures

pub returns : goal.returns
returns c =
    later-does _ _ _ c.collect.ensures c.requires.later_free _ (subst (Lowest _ _) c.unwrap-number.ensures c.lowest_free.ensures) _ c.put_rule.ensures
