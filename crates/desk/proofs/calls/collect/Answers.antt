-- `collect` meets its contract. Assumes nothing.
use Rattle.desk.proofs.InUse.{collect-said}
use Rattle.desk.proofs.calls.collect.Goals as goal

pub returns : goal.returns
returns c =
    let p = c.collect-done.ensures in
    (c.sets_in_use.ensures.few, record { answer = _; promised = p; printed = collect-said p c.sets_in_use.ensures })
