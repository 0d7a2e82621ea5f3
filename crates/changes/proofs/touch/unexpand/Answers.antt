-- `unexpand` meets its contract: zeros, then the mark. Assumes nothing.
use mathlib.Core.Path.{refl}
use Rattle.changes.proofs.Ends.{unexpand-made}
use Rattle.changes.proofs.touch.unexpand.Goals as goal

pub returns : goal.returns
returns c =
    unexpand-made _ _ _ _ _ _ c.requires.has_row c.clear.ensures refl c.clear-2.ensures
