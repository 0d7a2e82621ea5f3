-- `parse_numbers` meets its contract: a verdict's number is that of accept or of reject. Assumes nothing.
use mathlib.Core.Path.{◌≡◌, refl, ap}
use Rattle.laws.specs.Choice.{when}
use Rattle.unmade.proofs.calls.parse_numbers.Goals as goal

pub returns-in-Ok : goal.returns-in-Ok
unfolding when
returns-in-Ok c = rw c.in-Ok.is (rw c.if-verdict.true (refl, refl))

pub returns-in-Ok-2 : goal.returns-in-Ok-2
unfolding when
returns-in-Ok-2 c =
    let same : c.in-Ok-2.verdict ≡ c.in-Ok.verdict = cc in
    rw c.in-Ok.is (rw c.if-verdict.false (refl, ap (λ v. v.links) same))
