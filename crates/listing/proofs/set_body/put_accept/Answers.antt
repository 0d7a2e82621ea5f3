-- `put_accept` meets its contract. Assumes nothing.
use mathlib.Core.Path.{ap}
use mathlib.Core.List.{[], ◌∷◌}
use Rattle.text.specs.Text.{SPACE}
use Rattle.text.proofs.Putting.{adds_then, adds_as}
use Rattle.listing.specs.Printed.{accept_text}
use Rattle.listing.proofs.set_body.put_accept.Goals as goal

pub returns : goal.returns
unfolding accept_text
returns c = adds_as (ap (λ d. SPACE ∷ 65 ∷ SPACE ∷ d ∷ []) c.accept_digit.ensures) (adds_then c.put_letter.ensures c.put_letter-2.ensures)
