-- `skydoublet_parse` promises what `recogniser::parse` promises, of the verdict's number. Assumes nothing.
use mathlib.Core.Path.{refl}
use Rattle.laws.specs.Choice.{when}
use Rattle.skydoublet.proofs.calls.skydoublet_parse.Goals as goal

pub returns-then-verdict : goal.returns-then-verdict
unfolding when
returns-then-verdict c = record {
  verdict = c.parse.result;
  promise = c.parse.ensures;
  answer = rw (c.in-Ok.is, c.if-verdict.true) refl;
  links = rw c.in-Ok.is refl;
}

pub returns-else-verdict : goal.returns-else-verdict
unfolding when
returns-else-verdict c = record {
  verdict = c.parse.result;
  promise = c.parse.ensures;
  answer = rw (c.in-Ok.is, c.if-verdict.false) refl;
  links = rw c.in-Ok.is refl;
}
