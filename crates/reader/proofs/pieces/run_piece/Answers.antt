-- `run_piece` meets its contract. Assumes nothing.
use Rattle.std.proofs.Common.{arith}
use Rattle.reader.proofs.Turns.{fed}
use Rattle.reader.proofs.pieces.run_piece.Goals as goal

pub returns : goal.returns
returns c =
    record {
      few = c.keep_rest.ensures.few;
      fed = fed c.args.held.now.len c.args.n (omega (arith, c.requires)) c.run_lines-at.ensures c.keep_rest.ensures;
      standing = c.standing_once_written.ensures;
    }
