-- `masks::put_named` meets its contract. The invariant: the bits of the rules below r are put. Assumes nothing.
use mathlib.Core.Path.{sym, ap, ◌∙◌}
use borrow.Author.Rules.{rules}
use Rattle.laws.proofs.Loops.{up_to-zero, up_to-more}
use Rattle.form.specs.Masks.{put_named}
use Rattle.form.proofs.masks.put_named.Goals as goal

pub loop-r-init : goal.loop-r-init
loop-r-init c = (search rules, sym (up_to-zero _ _))

pub loop-r-preserved : goal.loop-r-preserved
loop-r-preserved c = (
  search rules,
  c.put_rule.ensures ∙ ap (put_named c.args.rules.now c.args.last c.loop-r.r) c.loop-r.invariant.1 ∙ sym (up_to-more _ _ _),
)
