-- Add on a table in form does what the model's does. Assumes nothing.
use mathlib.Core.Path.{subst}
use Rattle.std.specs.Prelude.{Ok}
use Rattle.std.proofs.lemmas.Result.{err_from_is_err_and}
use Rattle.table.proofs.Formed.{formed-rules}
use Rattle.checks.specs.Found.{AddFound}
use Rattle.generator.proofs.Calls.{add-refused, later-free}
use Rattle.generator.proofs.change.add.Goals as goal

pub check_add-requires : goal.check_add-requires
check_add-requires c = formed-rules c.requires

pub returns-in_err-number : goal.returns-in_err-number
returns-in_err-number c =
    let p = err_from_is_err_and c.from_residual.result c.from_residual.ensures.1 in
    rw (p.1, p.2) (add-refused _ c.requires _ _ _ c.in_err-number.ensures)

pub add_later-requires-clause-later_free : goal.add_later-requires-clause-later_free
add_later-requires-clause-later_free c =
    later-free _ c.requires _ _ _ (subst (λ o. AddFound c.args.rules.now c.args.left c.args.right.now (Ok (o, c.in_ok-number.rule))) c.in-None.is c.in_ok-number.ensures)
