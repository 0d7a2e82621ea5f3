-- `Rule::places_fit` meets its contract: the test over the seven places. Assumes nothing.
use Rattle.std.proofs.Common.{refl, rules, tests}
use Rattle.laws.proofs.Ranges.{below_from_all}
use Rattle.symbols.specs.Rule.{place_fits, places_fit}
use Rattle.symbols.proofs.rule.Rule.places_fit.Goals as goal

pub returns : goal.returns
unfolding places_fit
returns c = below_from_all (place_fits c.args.self) c.all.ensures.ran refl refl (λ x b q k. search (rules, tests))
