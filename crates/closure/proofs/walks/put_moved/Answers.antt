-- `closure::walks::put_moved` meets its contract. Assumes nothing.
use mathlib.Core.Path.{sym, ap, ◌∙◌}
use native.Mathlib.Omega.{arith}
use borrow.Author.Tests.{eq-eqb, ne_eqb}
use lib.Dec.{eqb}
use Rattle.closure.proofs.Rules.{after-inside}
use Rattle.kernels.proofs.Puts.{put_if_yes, put_if_no}
use Rattle.closure.proofs.walks.put_moved.Goals as goal

pub put-requires : goal.put-requires
put-requires c =
    let (before-end, p) = after-inside c.args.rules.now c.requires.0 c.args.item (omega (arith, c.after.ensures, c.if-after-x.true, c.requires.2)) in
    omega (arith, c.requires.0.laid.few_rules)

pub returns-then-after-x : goal.returns-then-after-x
returns-then-after-x c =
    put_if_yes _ _ (ap (λ y. eqb y c.args.x) (sym c.after.ensures) ∙ eq-eqb _ _ c.if-after-x.true) c.put.ensures

pub returns-else-after-x : goal.returns-else-after-x
returns-else-after-x c = put_if_no _ (ap (λ y. eqb y c.args.x) (sym c.after.ensures) ∙ ne_eqb _ _ c.if-after-x.false)
