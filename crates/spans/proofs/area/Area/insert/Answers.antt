use Rattle.laws.proofs.Choice.{tells_no}
use Rattle.spans.proofs.Inserted.{insert-new}
use Rattle.spans.proofs.area.Area.insert.Goals as goal

pub returns-clause-inserts : goal.returns-clause-inserts
returns-clause-inserts c =
    insert-new c.requires.0 c.place_for-e.ensures c.make_room.ensures.opened c.requires.1
    (tells_no _ c.is_before.ensures c.if-is_before.false) c.make_room.ensures.count
