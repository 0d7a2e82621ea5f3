-- `generator::add` keeps its promise. Assumes nothing.
use Rattle.generator.proofs.Calls.{add_kept}
use Rattle.generator.proofs.add.Goals as goal

pub returns : goal.returns
returns c = add_kept _ _ c.if-not-is_formed.ensures _ _ _ _ c.add.ensures
