-- `check_delete` meets its contract: 01's order of checks. Assumes nothing.
use Rattle.std.proofs.lemmas.Result.{err_from_is_err_and}
use Rattle.checks.proofs.Deleting.{delete-refused, delete-absent, delete-there}
use Rattle.checks.proofs.find.check_delete.Goals as goal

pub returns-in_err-rule : goal.returns-in_err-rule
returns-in_err-rule c =
    let p = err_from_is_err_and c.from_residual.result c.from_residual.ensures.1 in
    rw (p.1, p.2) (delete-refused _ _ _ _ c.in_err-rule.ensures)

pub returns-in_err-number : goal.returns-in_err-number
returns-in_err-number c =
    let p = err_from_is_err_and c.from_residual-in_err-number.result c.from_residual-in_err-number.ensures.1 in
    rw (p.1, p.2) (delete-absent _ _ _ _ c.in_ok-rule.ensures c.requires c.find.result _ c.find.ensures c.in_err-number.ensures.value)

pub returns : goal.returns
returns c = delete-there _ _ _ _ c.in_ok-rule.ensures c.requires c.find.result _ c.find.ensures c.in_ok-number.ensures.value
