-- `parse` meets its contract: the link buffer has room for the pool. Assumes nothing.
use Rattle.laws.specs.Choice.{when}
use Rattle.unmade.proofs.calls.Lent.parse.Goals as goal

pub returns : goal.returns
unfolding when
returns g c = simp c.parse_numbers.ensures.0 (simp c.parse_numbers.ensures.1 c.parse-parsed.ensures.promised)
