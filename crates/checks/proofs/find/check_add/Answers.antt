-- `check_add` meets its contract: 01's order of checks, then the choice of a number. That the rule isn't there is found by `cc` and
-- not cited, so that checks in another order are refused by that fact. Assumes nothing.
use mathlib.Core.Bool.{false}
use mathlib.Core.Path.{◌≡◌, sym, ◌∙◌}
use Rattle.std.proofs.lemmas.Result.{err_from_is_err_and}
use Rattle.checks.proofs.Adding.{add-refused, add-there, add-full, add_back, add_free}
use Rattle.checks.proofs.States.{some_below, none_below}
use Rattle.checks.proofs.find.check_add.Goals as goal

pub returns-in_err-rule : goal.returns-in_err-rule
returns-in_err-rule c =
    let p = err_from_is_err_and c.from_residual.result c.from_residual.ensures.1 in
    rw (p.1, p.2) (add-refused _ _ _ _ c.in_err-rule.ensures)

pub returns-then-there : goal.returns-then-there
returns-then-there c =
    add-there _ _ _ _ c.in_ok-rule.ensures c.requires
    (some_below _ c.find.result c.find.ensures (sym c.is_some-there.ensures ∙ c.if-there.true))

pub returns-then-full : goal.returns-then-full
returns-then-full c =
    let absent : c.is_some-there.result ≡ false = cc in
    add-full _ _ _ _ c.in_ok-rule.ensures c.requires (none_below _ c.find.result c.find.ensures (sym c.is_some-there.ensures ∙ absent))
    c.is_full-full.ensures c.if-full.true

pub returns-in-Some : goal.returns-in-Some
returns-in-Some c =
    add_back _ _ _ _ c.in_ok-rule.ensures c.requires
    (none_below _ c.find.result c.find.ensures (sym c.is_some-there.ensures ∙ c.if-there.false)) c.is_full-full.ensures c.if-full.false
    c.in-Some.ensures

pub returns : goal.returns
returns c =
    add_free _ _ _ _ c.in_ok-rule.ensures c.requires
    (none_below _ c.find.result c.find.ensures (sym c.is_some-there.ensures ∙ c.if-there.false)) c.is_full-full.ensures c.if-full.false
    c.in_default.ensures _ c.lowest_free.ensures
