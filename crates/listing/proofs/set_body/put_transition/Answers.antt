-- `put_transition` meets its contract. Assumes nothing.
use mathlib.Core.Path.{refl, ap}
use mathlib.Core.List.{◌∷◌, ◌++◌}
use Rattle.laws.proofs.Choice.{when_yes, when_no}
use Rattle.text.specs.Text.{SPACE, decimal}
use Rattle.text.proofs.Putting.{adds_none, adds_then, adds_as}
use Rattle.listing.specs.Walk.{transition_of}
use Rattle.listing.proofs.Walks.{no_target, a_target}
use Rattle.listing.proofs.set_body.put_transition.Goals as goal

pub returns-then-t-ne0 : goal.returns-then-t-ne0
unfolding transition_of
returns-then-t-ne0 c = adds_as (when_yes _ (a_target c.target-t.ensures c.if-t-ne0.true) (ap (λ t. SPACE ∷ (decimal c.args.x ++ (62 ∷ decimal t))) c.target-t.ensures))
    (adds_then c.put_spaced.ensures (adds_then c.put_byte.ensures c.put_number.ensures))

pub returns-else-t-ne0 : goal.returns-else-t-ne0
returns-else-t-ne0 c = adds_as (when_no _ (no_target c.target-t.ensures c.if-t-ne0.false) refl) (adds_none _)
