-- `start_again` meets its contract: zeros, the mark, then the items of START's rules. Assumes nothing.
use mathlib.Core.Path.{refl}
use Rattle.changes.proofs.Ends.{start-made}
use Rattle.changes.proofs.touch.start_again.Goals as goal

pub returns : goal.returns
returns c =
    start-made _ _ _ _ _ _ _ c.requires c.clear.ensures refl c.clear-2.ensures c.put_starts.ensures
