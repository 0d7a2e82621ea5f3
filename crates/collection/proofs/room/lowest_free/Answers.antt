-- `collection::room::lowest_free` meets its contract. Assumes nothing.
use Rattle.std.proofs.Common.{◌≡◌, true, false, arith, rules, tests}
use Rattle.std.proofs.lemmas.Iterator.{first_from_Range}
use Rattle.std.proofs.lemmas.List.{get_or_read}
use Rattle.collection.proofs.Counted.{is_free, lowest-found}
use Rattle.collection.proofs.room.lowest_free.Goals as goal

pub returns : goal.returns
returns c =
    let free = is_free c.args.cells.now in
    lowest-found _ _
    (first_from_Range _ _ _ _ (λ i. free i ≡ true) (λ i. free i ≡ false) c.find.ensures.ran
    (λ x q k. grind (arith, tests, get_or_read))
    (λ x q k. (search rules, grind (arith, tests, get_or_read))))
    c.unwrap_or.ensures
