-- `run_last` meets its contract. Assumes nothing.
use Rattle.std.proofs.Common.{[], arith, rules, tests}
use Rattle.reader.proofs.Running.{last_none, last_some}
use Rattle.reader.proofs.Waiting.{waits-none, puts_wait}
use Rattle.reader.proofs.lines.run_last.Goals as goal

pub returns-then-not-is_empty : goal.returns-then-not-is_empty
returns-then-not-is_empty c =
    let ran = c.run_line.ensures in
    record {
      printed = ran.prints.text;
      last = last_some c.args.text.now (search (rules, tests)) ran.prints.answers ran.sizes;
      waits = puts_wait ran.ready ran.prints.puts ran.inside (omega (arith, c.args.out.now.inside, c.args.out.now.size));
    }

pub returns-else-not-is_empty : goal.returns-else-not-is_empty
returns-else-not-is_empty c =
    record {
      printed = [];
      last = last_none _ _ c.args.text.now (search (rules, tests));
      waits = waits-none _ _ (omega (arith, c.args.out.now.inside, c.args.out.now.size));
    }
