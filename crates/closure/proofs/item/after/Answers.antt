-- `closure::item::after` meets its contract. Below the eighth dot the place is read, used or not; at it no right side goes on. Assumes nothing.
use native.Mathlib.Omega.{arith}
use Rattle.closure.proofs.Rules.{after_read, after_last}
use Rattle.closure.proofs.item.after.Goals as goal

pub returns-then-dot-eq-PLACES : goal.returns-then-dot-eq-PLACES
returns-then-dot-eq-PLACES c =
    after_last c.args.rules.now c.requires.0 c.args.item c.requires.1 (omega arith)

pub returns : goal.returns
returns c =
    after_read c.args.rules.now c.requires.0 c.args.item c.requires.1 c.if-dot-eq-PLACES.false
