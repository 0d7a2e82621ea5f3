-- `Cursor::number` meets its contract: 0 stands alone, and any other number has its digits one after the other, four at most.
-- Assumes nothing.
use mathlib.Core.Path.{refl, sym, ap, ◌∙◌}
use Rattle.std.specs.Prelude.{Some}
use native.Mathlib.Omega.{arith}
use Rattle.script.proofs.Reading.{spelled_one, spelled_next, no_text, no_space, no-digits, zero_ended, digits-ended, digits-stopped, digit-there}
use Rattle.script.proofs.cursor.Cursor.number.Goals as goal

pub returns-in_err-get : goal.returns-in_err-get
returns-in_err-get c = no_text _ _ c.in_err-get.ensures.lookup.3 c.from_residual.ensures

pub returns-then-branch-ne32 : goal.returns-then-branch-ne32
returns-then-branch-ne32 c = let l = c.in_ok-get.ensures.lookup in no_space _ _ l.3.0 (λ e. c.if-branch-ne32.true (l.3.1 0 ∙ e))

pub returns-in_err-first : goal.returns-in_err-first
returns-in_err-first c = let l = c.in_ok-get.ensures.lookup in
    no-digits _ _ l.3.0 (sym (l.3.1 0) ∙ c.if-branch-ne32.false) c.in_err-first.ensures c.from_residual-in_err-first.ensures

pub returns-then-first-eq0 : goal.returns-then-first-eq0
returns-then-first-eq0 c = let l = c.in_ok-get.ensures.lookup in
    zero_ended _ _ l.3.0 (sym (l.3.1 0) ∙ c.if-branch-ne32.false) c.in_ok-first.ensures refl c.if-first-eq0.true c.ended.ensures

pub more-requires : goal.more-requires
more-requires c = let t = digit-there (sym c.in_ok-first.ensures) in omega (arith, t.small)

pub returns-in_default : goal.returns-in_default
returns-in_default c = let l = c.in_ok-get.ensures.lookup in
    digits-stopped _ _ l.3.0 (sym (l.3.1 0) ∙ c.if-branch-ne32.false) (omega arith)
    (spelled_one c.in_ok-first.ensures (omega arith) (omega arith))
    c.in_default.ensures (ap Some c.read.ensures)

pub more-requires-2 : goal.more-requires-2
more-requires-2 c = let s = spelled_next (omega arith) c.in-Some.ensures.1 (spelled_one c.in_ok-first.ensures (omega arith) (omega arith)) in
    omega (arith, s.below)

pub returns-in_default-more : goal.returns-in_default-more
returns-in_default-more c = let l = c.in_ok-get.ensures.lookup in
    digits-stopped _ _ l.3.0 (sym (l.3.1 0) ∙ c.if-branch-ne32.false) (omega arith)
    (spelled_next (omega arith) c.in-Some.ensures.1
    (spelled_one c.in_ok-first.ensures (omega arith) (omega arith)))
    c.in_default-more.ensures (ap Some c.read-in_default-more.ensures)

pub more-requires-3 : goal.more-requires-3
more-requires-3 c =
    let s =
    spelled_next (omega arith) c.in-Some-more.ensures.1
    (spelled_next (omega arith) c.in-Some.ensures.1
    (spelled_one c.in_ok-first.ensures (omega arith) (omega arith))) in
    omega (arith, s.below)

pub returns-in_default-more-2 : goal.returns-in_default-more-2
returns-in_default-more-2 c = let l = c.in_ok-get.ensures.lookup in
    digits-stopped _ _ l.3.0 (sym (l.3.1 0) ∙ c.if-branch-ne32.false) (omega arith)
    (spelled_next (omega arith) c.in-Some-more.ensures.1
    (spelled_next (omega arith) c.in-Some.ensures.1
    (spelled_one c.in_ok-first.ensures (omega arith) (omega arith))))
    c.in_default-more-2.ensures (ap Some c.read-in_default-more-2.ensures)

pub returns : goal.returns
returns c = let l = c.in_ok-get.ensures.lookup in
    digits-ended _ _ l.3.0 (sym (l.3.1 0) ∙ c.if-branch-ne32.false)
    (spelled_next (omega arith) c.in-Some-more-2.ensures.1
    (spelled_next (omega arith) c.in-Some-more.ensures.1
    (spelled_next (omega arith) c.in-Some.ensures.1
    (spelled_one c.in_ok-first.ensures (omega arith) (omega arith)))))
    c.ended-2.ensures
