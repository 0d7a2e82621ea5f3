-- What the reader keeps from line to line, as the desk's state. Assumes nothing.
use Rattle.table.specs.Layout.{mem}
use Rattle.desk.specs.Obeys.{State, state}
use Rattle.reader.specs.declared.lines.Desk.{Desk}

abbrev pub state_of : Desk → State
state_of d = state (mem d.rules d.cells d.words) d.links d.pool
