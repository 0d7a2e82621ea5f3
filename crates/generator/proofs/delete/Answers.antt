-- `generator::delete` keeps its promise. Assumes nothing.
use Rattle.generator.proofs.Calls.{delete-kept}
use Rattle.generator.proofs.delete.Goals as goal

pub returns : goal.returns
returns c = delete-kept _ _ c.if-not-is_formed.ensures _ _ _ _ c.delete.ensures
