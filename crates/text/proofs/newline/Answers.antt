-- `newline` meets its contract, by what `find` says of the places. Assumes nothing.
use Rattle.std.proofs.Common.{◌≡◌, true, false, arith, rules, tests, eqb, get_or}
use Rattle.std.proofs.lemmas.Iterator.{first_from_Range}
use Rattle.std.proofs.lemmas.List.{get_or_read}
use Rattle.text.specs.Text.{NEWLINE}
use Rattle.text.proofs.Newlines.{first-there}
use Rattle.text.proofs.newline.Goals as goal

pub returns-in-Some-clause-first : goal.returns-in-Some-clause-first
returns-in-Some-clause-first c =
    rw c.in-Some.is at
    (first-there NEWLINE c.args.at c.args.n c.args.text.now c.requires.from c.requires.inside _
    (first_from_Range _ _ _ _ (λ i. eqb (get_or c.args.text.now i 0) NEWLINE ≡ true) (λ i. eqb (get_or c.args.text.now i 0) NEWLINE ≡ false) c.find.ensures.ran
    (λ x q k. grind (arith, tests, get_or_read))
    (λ x q k. (search rules, grind (arith, tests, get_or_read)))))

pub returns-in-None-clause-first : goal.returns-in-None-clause-first
returns-in-None-clause-first c =
    rw c.in-None.is at
    (first-there NEWLINE c.args.at c.args.n c.args.text.now c.requires.from c.requires.inside _
    (first_from_Range _ _ _ _ (λ i. eqb (get_or c.args.text.now i 0) NEWLINE ≡ true) (λ i. eqb (get_or c.args.text.now i 0) NEWLINE ≡ false) c.find.ensures.ran
    (λ x q k. grind (arith, tests, get_or_read))
    (λ x q k. (search rules, grind (arith, tests, get_or_read)))))
