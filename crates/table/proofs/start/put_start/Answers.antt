-- `table::start::put_start` meets its contract. Assumes nothing.
use mathlib.Core.Path.{sym, ◌∙◌}
use Rattle.kernels.proofs.Puts.{put_if_yes, put_if_no}
use Rattle.table.specs.Start.{put_start}
use Rattle.table.proofs.start.put_start.Goals as goal

pub returns-then-is_start : goal.returns-then-is_start
unfolding put_start
returns-then-is_start c =
    let put = c.put in
    let if1 = c.if-is_start in
    let is-start = c.is_start in
    put_if_yes _ _ (sym is-start.ensures ∙ if1.true) put.ensures

pub returns-else-is_start : goal.returns-else-is_start
unfolding put_start
returns-else-is_start c = put_if_no _ (sym c.is_start.ensures ∙ c.if-is_start.false)
