-- `Rule::place_fits` meets its contract: the test of `place_fits`. Assumes nothing.
use Rattle.std.proofs.Common.{◌∙◌, ap, eqb, arith}
use borrow.Author.Tests.{lt-ltb, le-ltb}
use Rattle.laws.proofs.Choice.{when_yes, when_no}
use Rattle.symbols.specs.Rule.{place_fits}
use Rattle.symbols.specs.Symbol.{on_right}
use Rattle.symbols.proofs.rule.Rule.place_fits.Goals as goal

pub returns-then-k-from : goal.returns-then-k-from
unfolding place_fits
returns-then-k-from c = when_yes _ (lt-ltb _ _ (omega arith)) (c.may_stand_right.ensures ∙ ap (λ s. on_right s.0) c.at-x.ensures)

pub returns-else-k-from : goal.returns-else-k-from
unfolding place_fits
returns-else-k-from c = when_no _ (le-ltb _ _ (omega arith)) (c.eq.ensures ∙ ap (λ s. eqb s.0 0) c.at-x.ensures)
