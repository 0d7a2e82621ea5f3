-- Delete on a table in form does what the model's does. Assumes nothing.
use Rattle.std.proofs.lemmas.Result.{err_from_is_err_and}
use Rattle.table.proofs.Formed.{formed-rules}
use Rattle.generator.proofs.Calls.{delete-refused, delete-done}
use Rattle.generator.proofs.change.delete.Goals as goal

pub check_delete-requires : goal.check_delete-requires
check_delete-requires c = formed-rules c.requires

pub returns-in_err-number : goal.returns-in_err-number
returns-in_err-number c =
    let p = err_from_is_err_and c.from_residual.result c.from_residual.ensures.1 in
    rw (p.1, p.2) (delete-refused _ c.requires _ _ _ c.in_err-number.ensures)

pub returns : goal.returns
returns c = delete-done _ c.requires _ _ _ _ c.in_ok-number.ensures c.put_rule.ensures
