-- `run` meets its contract. Assumes nothing.
use Rattle.desk.specs.Script.{blank}
use Rattle.reader.proofs.pieces.run.Goals as goal

pub returns : goal.returns
unfolding blank
returns g c = (_, c.run_script.ensures.1)
