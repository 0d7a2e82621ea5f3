-- `recogniser::refusals::check` meets its contract: 01's order of checks. That a test before was passed is found by `cc` and not cited,
-- so that checks in another order are refused by that fact. Assumes nothing.
use mathlib.Core.Bool.{true}
use mathlib.Core.Path.{◌≡◌}
use native.Mathlib.Omega.{arith}
use Rattle.laws.proofs.Choice.{tells_yes, tells_no}
use Rattle.laws.proofs.Tests.{fails}
use Rattle.recogniser.specs.Check.Refusal.{bad_table, bad_pool, long_line, bad_token}
use Rattle.recogniser.proofs.refusals.check.Goals as goal

pub returns-then-not-formed : goal.returns-then-not-formed
returns-then-not-formed c = bad_table (tells_no _ c.is_formed-formed.ensures c.if-not-formed.true)

pub returns-then-not-fits : goal.returns-then-not-fits
returns-then-not-fits c =
    let passed : c.is_formed-formed.result ≡ true = cc in
    bad_pool (tells_yes _ c.is_formed-formed.ensures passed) (tells_no _ c.pool_fits-fits.ensures c.if-not-fits.true)

pub returns-then-line-gt-MOST_TOKENS : goal.returns-then-line-gt-MOST_TOKENS
returns-then-line-gt-MOST_TOKENS c =
    long_line (tells_yes _ c.is_formed-formed.ensures c.if-not-formed.false)
    (tells_yes _ c.pool_fits-fits.ensures c.if-not-fits.false) (omega arith)

pub returns-then-not-are_tokens : goal.returns-then-not-are_tokens
returns-then-not-are_tokens c =
    bad_token (tells_yes _ c.is_formed-formed.ensures c.if-not-formed.false)
    (tells_yes _ c.pool_fits-fits.ensures c.if-not-fits.false) (omega arith) (fails (cc))
