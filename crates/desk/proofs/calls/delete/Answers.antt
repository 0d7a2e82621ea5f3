-- `delete` meets its contract. Assumes nothing.
use mathlib.Core.Path.{refl}
use Rattle.theory.specs.Calls.{delete}
use Rattle.desk.proofs.Bounds.{delete_digits}
use Rattle.desk.proofs.Rights.{right_is}
use Rattle.desk.proofs.calls.delete.Goals as goal

pub returns : goal.returns
returns c =
    let p = right_is c.args.symbols.now c.args.n delete c.delete.ensures in (delete_digits _ _ p, record { answer = _; number = _; promised = p; printed = refl })
