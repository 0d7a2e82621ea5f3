-- `run_lines` meets its contract. Assumes nothing.
use Rattle.std.proofs.Common.{[], arith}
use Rattle.desk.specs.Script.Ran.{rest}
use Rattle.desk.proofs.Scripts.{unbroken_nil}
use Rattle.reader.proofs.Waiting.{waits-none}
use Rattle.reader.proofs.Running.{turn, ended}
use Rattle.reader.proofs.lines.run_lines.Goals as goal

pub loop-end-init : goal.loop-end-init
loop-end-init c = (
  omega arith,
  c.newline-end.ensures.first,
  c.newline-end.ensures.within,
  record { printed = []; ran = rest unbroken_nil; waits = waits-none _ _ (omega (arith, c.args.out.now.inside, c.args.out.now.size)) },
)

pub loop-end-preserved : goal.loop-end-preserved
loop-end-preserved c = (
  omega (arith, c.loop-end-test.true),
  c.newline-end-in-loop-end.ensures.first,
  c.newline-end-in-loop-end.ensures.within,
  turn c.args.text.now _ _ (omega arith) c.loop-end.invariant.0 c.loop-end.invariant.1 c.loop-end-test.true
      c.loop-end.invariant.3 c.run_line.ensures (omega (arith, c.loop-end.out.size, c.args.out.now.size)),
)

pub returns : goal.returns
returns c =
    ended c.args.text.now _ _ (omega arith) c.loop-end.invariant.0 c.loop-end.invariant.1 c.loop-end-test.false c.loop-end.invariant.3
