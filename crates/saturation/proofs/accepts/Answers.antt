-- `saturation::accepts` meets its contract. The mark 3 is the accept mark. Assumes nothing.
use mathlib.Core.Bool.{true, false}
use mathlib.Core.Path.{◌∙◌, ap, sym}
use Prim.Native.Nat.{◌*◌}
use native.Mathlib.Omega.{arith}
use lib.ListN.{get_or}
use Rattle.table.specs.Layout.{mem}
use Rattle.saturation.proofs.Marks.{accepting}
use Rattle.saturation.proofs.accepts.Goals as goal

pub returns-then-cells-u-eq-ACCEPTING : goal.returns-then-cells-u-eq-ACCEPTING
returns-then-cells-u-eq-ACCEPTING c =
    accepting (mem c.args.rules.now c.args.cells.now c.args.words.now) c.requires.standing.1 c.requires.formed.1 true (record {
      m = c.loop-m.m;
      from = omega arith;
      low = c.loop-m-test.true;
      mark = ap (λ u. get_or c.args.cells.now (u * 128) 0) (sym c.set_of-u.ensures) ∙ c.if-cells-u-eq-ACCEPTING.true;
    })

pub returns : goal.returns
returns c =
    accepting (mem c.args.rules.now c.args.cells.now c.args.words.now) c.requires.standing.1 c.requires.formed.1 false
    (λ w. c.loop-m.invariant (record { m = w.m; from = w.from; low = let q = w.low in omega arith; mark = w.mark }))
