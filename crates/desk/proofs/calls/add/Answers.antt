-- `add` meets its contract. Assumes nothing.
use mathlib.Core.Path.{refl}
use Rattle.theory.specs.Calls.{add}
use Rattle.desk.proofs.Bounds.{add_digits}
use Rattle.desk.proofs.Rights.{right_is}
use Rattle.desk.proofs.calls.add.Goals as goal

pub returns : goal.returns
returns c =
    let p = right_is c.args.symbols.now c.args.n add c.add.ensures in (add_digits _ _ p, record { answer = _; number = _; promised = p; printed = refl })
