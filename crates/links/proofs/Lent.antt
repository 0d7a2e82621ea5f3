-- One step after another on the same slices, and at the same place. Assumes nothing.
use mathlib.Core.Path.{◌∙◌}
use Rattle.links.specs.declared.Links.{Links}
use Rattle.links.specs.Lent.{SameSlices, SamePlace}

pub slices_trans : {x y z : Links} → SameSlices x y → SameSlices y z → SameSlices x z
slices_trans f g = record { buf = g.buf ∙ f.buf; at = g.at ∙ f.at }

pub same_trans : {x y z : Links} → SamePlace x y → SamePlace y z → SamePlace x z
same_trans f g = record { slices = slices_trans f.slices g.slices; here = g.here ∙ f.here }
