-- `table::start::put_starts` meets its contract. The invariant: the items of the rules below r are put. Assumes nothing.
use mathlib.Core.Path.{◌≡◌, sym, ap, ◌∙◌}
use native.Mathlib.Omega.{arith}
use borrow.Author.Rules.{rules}
use Rattle.laws.proofs.Loops.{up_to-zero, up_to-more, up_to-end}
use Rattle.table.specs.Layout.{rules_in}
use Rattle.table.specs.Start.{put_start, put_starts}
use Rattle.table.proofs.start.put_starts.Goals as goal

pub loop-r-init : goal.loop-r-init
loop-r-init c = (search rules, sym (up_to-zero _ _))

pub loop-r-preserved : goal.loop-r-preserved
loop-r-preserved c = (
  search rules,
  c.put_start.ensures ∙ ap (put_start _ _) c.loop-r.invariant.1 ∙ sym (up_to-more _ _ _),
)

pub returns : goal.returns
unfolding put_starts
returns c =
    let e : c.loop-r.r ≡ rules_in c.args.rules.now = omega arith in
    up_to-end _ _ _ e c.loop-r.invariant.1
