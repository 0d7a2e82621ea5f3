use mathlib.Core.Path.{refl}
use Rattle.spans.specs.Area.{set_kept}
use Rattle.spans.proofs.area.set_kept.Goals as goal

pub returns : goal.returns
unfolding set_kept
returns c = refl
