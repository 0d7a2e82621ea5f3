-- `recogniser::parse` meets its contract. Assumes nothing.
use Rattle.std.proofs.lemmas.Result.{err_from_is_err_and}
use Rattle.recogniser.proofs.Promise.{parses-refused, parses-read}
use Rattle.recogniser.proofs.parse.Goals as goal

pub returns-in_err-check : goal.returns-in_err-check
returns-in_err-check c =
    let p = err_from_is_err_and c.from_residual.result c.from_residual.ensures.1 in
    rw (p.1, p.2) (parses-refused _ _ _ _ c.in_err-check.ensures)

pub returns : goal.returns
returns c = parses-read _ _ _ _ c.in_ok-check.ensures c.read-verdict.ensures c.clear.ensures
