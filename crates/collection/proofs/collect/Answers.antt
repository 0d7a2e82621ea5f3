-- `collection::collect` meets its contract. Assumes nothing.
use Rattle.collection.proofs.Collected.{formed_rows, collect-end}
use Rattle.collection.proofs.collect.Goals as goal

pub reach-marks-requires : goal.reach-marks-requires
reach-marks-requires c = formed_rows _ c.requires

pub returns : goal.returns
returns c = collect-end _ c.requires _ c.reach-marks.ensures c.free_withdrawn.ensures c.free_unmarked.ensures
