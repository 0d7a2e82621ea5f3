-- `generator::collect` keeps its promise. Assumes nothing.
use Rattle.generator.proofs.Calls.{collect-kept}
use Rattle.generator.proofs.collect.Goals as goal

pub returns : goal.returns
returns c = collect-kept _ _ c.if-not-is_formed.ensures c.collect.ensures
