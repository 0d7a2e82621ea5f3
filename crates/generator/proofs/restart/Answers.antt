-- `generator::restart` keeps its promise. Assumes nothing.
use Rattle.generator.proofs.Changing.{start-formed}
use Rattle.generator.proofs.Calls.{restart-done}
use Rattle.generator.proofs.restart.Goals as goal

pub collect-requires : goal.collect-requires
collect-requires c = start-formed _ _ c.if-not-is_formed.ensures _ c.unexpand_start.ensures

pub returns : goal.returns
returns c = restart-done _ _ _ _ _ _ c.if-not-is_formed.ensures c.unexpand_start.ensures c.collect.ensures
