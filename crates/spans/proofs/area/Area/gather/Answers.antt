use mathlib.Core.Path.{refl}
use native.Mathlib.Omega.{arith}
use Rattle.spans.proofs.Reached.{formed-kernels}
use Rattle.spans.proofs.SameKeys.{same-ascending}
use Rattle.spans.proofs.Gathered.{cleared_keys, line_low, few_taken, few_spans, gathered}
use Rattle.spans.proofs.area.Area.gather.Goals as goal

pub symbols_of-symbols-requires : goal.symbols_of-symbols-requires
symbols_of-symbols-requires c =
    formed-kernels c.args.rules.now c.requires.graphed.cells c.args.words.now c.requires.graphed.formed

pub insert-requires : goal.insert-requires
insert-requires c =
    (c.take_links.ensures.taken.ascending, omega (arith, few_taken c.requires.graphed c.take_links.ensures.taken))

pub forget-requires : goal.forget-requires
forget-requires c =
    omega (arith, few_spans c.requires.graphed c.take_links.ensures.taken c.insert.ensures.inserts)

pub forget-requires-2 : goal.forget-requires-2
forget-requires-2 c =
    omega (arith, few_spans c.requires.graphed c.take_links.ensures.taken c.insert.ensures.inserts)

pub put_firsts-requires : goal.put_firsts-requires
put_firsts-requires c =
    let few = few_spans c.requires.graphed c.take_links.ensures.taken c.insert.ensures.inserts in
    rw (c.forget-2.ensures.count, c.forget.ensures.count) (
      (same-ascending (cleared_keys few c.forget.ensures.forgotten c.forget-2.ensures.forgotten) c.insert.ensures.inserts.ascending, few),
      (line_low c.requires.graphed, omega arith),
    )

pub returns-clause-gathered : goal.returns-clause-gathered
returns-clause-gathered c = λ cells.
    rw (c.put_firsts.ensures.count, c.forget-2.ensures.count, c.forget.ensures.count)
    (gathered c.requires.graphed cells c.args.line.now refl c.symbols_of-symbols.ensures c.take_links.ensures.taken
    c.key_of.ensures c.insert.ensures.inserts (omega arith) c.forget.ensures.forgotten c.forget-2.ensures.forgotten
    (rw (c.forget-2.ensures.count, c.forget.ensures.count) at c.put_firsts.ensures.begun))
