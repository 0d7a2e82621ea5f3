-- `run_script` meets its contract. Assumes nothing.
use Rattle.std.proofs.Common.{arith, rules, tests}
use mathlib.Core.Logic.{inl, inr}
use Rattle.reader.specs.declared.pieces.Standing.TheVariants.{More}
use Rattle.reader.proofs.Turns.{none_yet, turn, goes_on, ends}
use Rattle.reader.proofs.pieces.run_script.Goals as goal

pub loop-init : goal.loop-init
loop-init g c = none_yet _ c.new-held.result.bytes c.new-held.result.len c.new-held.ensures

pub returns-then-ne : goal.returns-then-ne
returns-then-ne g c = (
  _,
  ends _ _ _ _ (inr (search (rules, tests)))
      (turn _ _ _ _ c.fill-got.ensures.filled c.fill-got.ensures.same_len c.loop.invariant c.run_turn-standing.ensures),
)

pub loop-preserved : goal.loop-preserved
loop-preserved g c =
    goes_on (search (rules, tests))
    (turn _ _ _ _ c.fill-got.ensures.filled c.fill-got.ensures.same_len c.loop.invariant c.run_turn-standing.ensures)

pub returns : goal.returns
returns g c = (_, ends _ _ _ More (inl (omega (arith, c.loop-test.false))) c.loop.invariant)
