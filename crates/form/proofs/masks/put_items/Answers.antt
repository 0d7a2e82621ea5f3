-- `masks::put_items` meets its contract. The invariant: the items with a dot below d are put. Assumes nothing.
use mathlib.Core.Path.{sym, ap, ◌∙◌}
use native.Mathlib.Omega.{arith}
use borrow.Author.Rules.{rules}
use Rattle.std.proofs.lemmas.Grind.{common_steps}
use Rattle.laws.proofs.Loops.{up_to-zero, up_to-more}
use Rattle.kernels.specs.Kernel.{item, put}
use Rattle.form.specs.Masks.{put_items}
use Rattle.form.proofs.masks.put_items.Goals as goal

pub loop-d-init : goal.loop-d-init
loop-d-init c = (search rules, sym (up_to-zero _ _))

pub loop-d-preserved : goal.loop-d-preserved
unfolding put
loop-d-preserved c = (
  search rules,
  c.put.ensures ∙ ap (λ l. put l 0 (item c.args.r c.loop-d.d)) c.loop-d.invariant.1 ∙ sym (up_to-more _ _ _),
)

pub returns : goal.returns
unfolding put_items
returns c = grind (arith, common_steps)
