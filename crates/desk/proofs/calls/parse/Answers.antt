-- `parse` meets its contract. Assumes nothing.
use Rattle.desk.proofs.Bounds.{parse_digits}
use Rattle.desk.proofs.InUse.{parse-said}
use Rattle.desk.proofs.calls.parse.Goals as goal

pub returns : goal.returns
returns c =
    let p = c.parse-read.ensures in
    ((parse_digits p, c.sets_in_use.ensures.few), record { verdict = c.parse-read.result; parses = p; printed = parse-said p.promised c.sets_in_use.ensures _ })
