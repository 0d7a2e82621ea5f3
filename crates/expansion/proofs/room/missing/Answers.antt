-- `expansion::room::missing` meets its contract. Assumes nothing.
use Rattle.expansion.proofs.Missing.{count_start, count-above, count_one, count_none, count-end}
use Rattle.expansion.proofs.room.missing.Goals as goal

pub loop-x-init : goal.loop-x-init
loop-x-init c =
    rw c.into_iter-x-iterator.ensures.into_iter_gives (count_start _ _ _ _ c.requires.holds_symbols c.of-x-items.ensures.over c.of-x-items.ensures.start)

pub is_missing-requires : goal.is_missing-requires
is_missing-requires c =
    (c.requires.countable, count-above _ _ _ _ c.requires.holds_symbols c.loop-x.invariant c.in-Some.ensures.steps)

pub loop-x-preserved-then-is_missing : goal.loop-x-preserved-then-is_missing
loop-x-preserved-then-is_missing c =
    count_one _ _ _ _ c.requires.holds_symbols c.loop-x.invariant c.in-Some.ensures.steps c.if-is_missing.ensures

pub loop-x-preserved : goal.loop-x-preserved
loop-x-preserved c =
    count_none _ _ _ _ c.requires.holds_symbols c.loop-x.invariant c.in-Some.ensures.steps c.if-is_missing.ensures

pub returns : goal.returns
returns c = count-end _ _ _ _ c.requires.holds_symbols c.loop-x.invariant c.in-None.ensures.steps
